-- Shifts by any distance, by a word that is 0 where the distance reaches the width.
use Rattle.tv_core.proofs.Common.{◌≡◌, ℕ, ◌*◌, ◌/◌, ◌%◌, ◌^◌, ◌<◌, ◌≤◌, if◌then◌else◌, ap, arith, mod-eq_of_lt, zero-mul, cases_lt, lt-ltb, le-ltb, nat_tests}
use Rattle.tv_core.proofs.Common.{IsWidth}
use Rattle.std.proofs.Common.{one-mul}
use Rattle.std.proofs.Math.Nat.{zero-mod, zero-div}
use Rattle.tv_bits.specs.ZeroSign.{sign_at_zero}
use Rattle.tv_core.specs.declared.field.TheConstants.{P}
use Rattle.tv_rows.specs.RowShift.{right_high, shifted_word, ShiftsByAnyDistance}
use Rattle.tv_word.specs.Operations.{mull_result, shl_result, shr_result}

module _ (w s a : ℕ) where
  within : a < w → shifted_word w s a ≡ s
  within less = ap (λ b. if b then s else 0) (lt-ltb a w less)

  past : w ≤ a → shifted_word w s a ≡ 0
  past more = ap (λ b. if b then s else 0) (le-ltb a w more)

  left_any : mull_result w (shifted_word w s a) (2 ^ (a % w)) ≡ shl_result w s a
  left_any = search (arith, cases_lt, within, mod-eq_of_lt, lt-ltb, past, zero-mul, zero-mod, le-ltb)

  right_any : right_high (shifted_word w s a) (a % w) ≡ shr_result w s a
  right_any = search (arith, cases_lt, within, mod-eq_of_lt, lt-ltb, past, zero-div, le-ltb)

  module _ (width : IsWidth w) (word : s < 2 ^ w) where
    small : s < P
    small = grind arith

    sign_within : a < w → sign_at_zero (a / w) 1 ≡ 1
    sign_within less = let none : a / w ≡ 0 = grind arith in grind (arith, nat_tests)

    sign_past : w ≤ a → sign_at_zero (a / w) 1 ≡ 0
    sign_past more = let some : 1 ≤ a / w = grind arith in grind (arith, nat_tests)

    word_any : sign_at_zero (a / w) 1 * s % P ≡ shifted_word w s a
    word_any = search (arith, cases_lt, sign_within, one-mul, mod-eq_of_lt, small, within, sign_past, zero-mul, zero-mod, past)

pub any_distance : ShiftsByAnyDistance
any_distance = record { left = left_any; right = right_any; word = λ w width s a word. word_any w s a width word }
