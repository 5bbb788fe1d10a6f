-- The bytes of a word of 16 bits are the first of those that it has in 32.
use Rattle.tv_core.proofs.Common.{◌≡◌, ◌/◌, ℕ, take, refl}
use Rattle.tv_word.specs.Word.{word_bytes}
use Rattle.tv_plan.proofs.Common.{Width, Bits16, Bits32, bits}

pub word_bytes_narrow : (width : Width) (v : ℕ) → take (bits width / 8) (word_bytes 32 v) ≡ word_bytes (bits width) v
word_bytes_narrow Bits16 v = refl
word_bytes_narrow Bits32 v = refl
