-- Words with their signs.
use Rattle.std.specs.Prelude.{◌≡◌, ℕ, ◌+◌, ◌-◌, ◌^◌, ◌<◌, List, max, slice_index}
use Rattle.std.specs.Int.{bit_at}
use Rattle.tv_bits.specs.declared.signed_words.SignedWord.{SignedWord}

-- the wires hold a word of w bits and its highest bit
pub record HoldsSigned (w : ℕ) (z : List ℕ) (x : SignedWord) (v : ℕ) : Type 0 where
  pub small : v < 2 ^ w
  pub word : slice_index z x.word ≡ v
  pub sign : slice_index z x.sign ≡ bit_at v (w - 1)

-- one more than the greater of the two wires
abbrev pub top_signed : SignedWord → ℕ
top_signed x = max (x.word + 1) (x.sign + 1)
