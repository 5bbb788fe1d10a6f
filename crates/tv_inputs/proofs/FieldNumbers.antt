-- Words, bytes and flags are numbers of the field, and so is a choice of two.
use Rattle.tv_core.proofs.Common.{◌≡◌, ℕ, ◌*◌, ◌%◌, ◌^◌, ◌<◌, Bool, true, false, if◌then◌else◌, arith, for_widths, IsWidth, flag_of}
use Rattle.tv_core.specs.declared.field.TheConstants.{P}
use Rattle.tv_mem.specs.Bytes.{byte_of}

pub small_word : (w : ℕ) → IsWidth w → (v : ℕ) → v < 2 ^ w → v < P
small_word w width = for_widths (λ w. (v : ℕ) → v < 2 ^ w → v < P) (λ v h. omega arith) (λ v h. omega arith) w width

pub byte_small : (o j : ℕ) → byte_of o j < P
byte_small o j = omega arith

pub flag_in_field : (b : Bool) → flag_of b < P
flag_in_field true = omega arith
flag_in_field false = omega arith

pub either : (b : Bool) (x y : ℕ) → x < P → y < P → (if b then x else y) < P
either true x y h k = h
either false x y h k = k

-- a flag times a number
pub flag_times : (b : Bool) (n : ℕ) → n < P → flag_of b * n % P ≡ (if b then n else 0)
flag_times true n h = omega arith
flag_times false n h = omega arith
