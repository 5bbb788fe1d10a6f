-- The flags of two words, and what the constraints on them say, as numbers.
use Rattle.tv_core.proofs.Common.{◌≡◌, ◌≢◌, ℕ, ◌+◌, ◌-◌, ◌/◌, ◌^◌, ◌<◌, ◌≤◌, if◌then◌else◌, Bool, true, false, ap, arith, lt-ltb, le-ltb, nat_tests, IsWidth}
use Rattle.std.proofs.Common.{int_lt}
use Rattle.std.proofs.Common.{eq-eqb, ne_eqb}
use Rattle.std.proofs.lemmas.Int.{ints}
use Rattle.tv_cmp.specs.Compare.{equal_flag, above_flag, greater_flag}
use Rattle.tv_word.proofs.SignedLaws.{int_lt_cases}
use Rattle.tv_word.specs.Word.{signed}

-- ---- the flags
pub equal_flag-same : (x y : ℕ) → x ≡ y → equal_flag x y ≡ 1
equal_flag-same x y h = ap (λ b. if b then 1 else 0) (eq-eqb x y h)

pub equal_flag-apart : (x y : ℕ) → x ≢ y → equal_flag x y ≡ 0
equal_flag-apart x y h = ap (λ b. if b then 1 else 0) (ne_eqb x y h)

pub above_flag-above : (x y : ℕ) → y < x → above_flag x y ≡ 1
above_flag-above x y h = ap (λ b. if b then 1 else 0) (lt-ltb y x h)

pub above_flag-not : (x y : ℕ) → x ≤ y → above_flag x y ≡ 0
above_flag-not x y h = ap (λ b. if b then 1 else 0) (le-ltb y x h)

-- ---- signed words: the sign bit counts for - 2 ^ (w - 1) in place of 2 ^ (w - 1)
-- greater is above, but for the sign bits
pub greater_is : (w : ℕ) → IsWidth w → (x y : ℕ) → x < 2 ^ w → y < 2 ^ w → greater_flag w x y + x / 2 ^ (w - 1) ≡ above_flag x y + y / 2 ^ (w - 1)
greater_is w width x y h k = grind (arith, ints, nat_tests, int_lt_cases)

pub greater_flag-bit : (w x y : ℕ) → greater_flag w x y < 2
greater_flag-bit w x y = by (int_lt (signed w y) (signed w x))
  where
    by : (t : Bool) → (if t then 1 else 0) < 2
    by true = omega arith
    by false = omega arith
