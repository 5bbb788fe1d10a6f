-- The test of a shift's operand, which doesn't depend on what the row holds.
use Rattle.tv_core.proofs.Common.{◌≡◌, ℕ, ◌+◌, ◌-◌, ◌*◌, ◌/◌, ◌%◌, ◌^◌, ◌<◌, ◌≤◌, ◌==◌, nat_lt, if◌then◌else◌, ◌++◌, inl, inr, refl, sym, ◌∙◌, ap, ap₂, arith}
use Rattle.tv_core.proofs.Common.{mod-lt, cases_lt, eq-eqb, ne_eqb, lt-ltb, le-ltb, slice_index, value-append, value-wire, wire-below, Meets-split, fresh, put}
use Rattle.tv_core.proofs.Common.{pure, ◌>>=◌, wire, value, width_short, for_widths, IsWidth, flag_of}
use Rattle.std.proofs.Math.Nat.{div-eq_of_lt, div-add-mod, div-le_self}
use Rattle.tv_bits.proofs.BitNumbers.{HasBits-small}
use Rattle.tv_core.specs.declared.field.TheConstants.{P}
use Rattle.tv_inputs.proofs.OpcodeLaws.{opcode_sum_sound}
use Rattle.tv_inputs.proofs.UpperLaws.{upper_is}
use Rattle.tv_arithmetic.specs.Arithmetic.{shift_ops, ShiftTestIsSound}
use Rattle.tv_inputs.specs.OpcodeSums.{opcode_sum}
use Rattle.tv_inputs.specs.Operand.{upper_of}
use Rattle.tv_inputs.specs.TestNumbers.{place_bits}
use Rattle.tv_inputs.specs.Results.{result_of, tested_of, results_of}

no_quotient : (n a : ℕ) → 0 < n → n ≤ a → a / n ≡ 0 → ⊥
no_quotient n a positive large e =
    let back : a ≡ n * 0 + a % n = sym (div-add-mod a n) ∙ ap (λ q. n * q + a % n) e in
    let rest : a % n < n = mod-lt a positive in
    absurd (omega arith)

-- a number that the bits above a place in a word represent is 0 where the word is below w
pub below_width : (w : ℕ) → IsWidth w → (a : ℕ) → (if a / 2 ^ place_bits w == 0 then 1 else 0) ≡ flag_of (nat_lt a w)
below_width = for_widths (λ w. (a : ℕ) → (if a / 2 ^ place_bits w == 0 then 1 else 0) ≡ flag_of (nat_lt a w)) (at 16 (omega arith)) (at 32 (omega arith))
  where
    at : (n : ℕ) → 0 < n → (a : ℕ) → (if a / n == 0 then 1 else 0) ≡ flag_of (nat_lt a n)
    at n positive a = elim (cases_lt a n) [
      | inl small ↦ ap (λ b. if b then 1 else 0) (eq-eqb (a / n) 0 (div-eq_of_lt small)) ∙ sym (ap flag_of (lt-ltb a n small))
      | inr large ↦ ap (λ b. if b then 1 else 0) (ne_eqb (a / n) 0 (λ e. no_quotient n a positive large e)) ∙ sym (ap flag_of (le-ltb a n large))
    ]

closes : (q y : ℕ) → q < P → y < P → 1 * (((P - 1) * q % P + y) % P) % P ≡ 0 → y ≡ q
closes q y h k e = omega arith

pub shift_test_sound : ShiftTestIsSound
unfolding results_of tested_of fresh put pure ◌>>=◌
shift_test_sound w width z next state op operand from t k a assigns opcode shift is_operand meets =
    let word = result_of w state op operand from t next in
    let y = word.next in
    let upper = upper_of (P - 1) operand (place_bits w) in
    let m1 = Meets-split z word.list _ meets in
    let most = width_short w width in
    let small : a < P = HasBits-small is_operand.bits (omega arith) in
    let below : a / 2 ^ place_bits w < P = omega (arith, div-le_self a (2 ^ place_bits w)) in
    let gate : value (opcode_sum op shift_ops) z ≡ 1 = opcode_sum_sound z op k shift_ops opcode refl ∙ ap flag_of shift in
    let sum : value (upper ++ wire y) z ≡ ((P - 1) * (a / 2 ^ place_bits w) % P + slice_index z y) % P =
    value-append upper (wire y) z
    ∙ ap₂ (λ m n. (m + n) % P) (upper_is w width z operand a (P - 1) (place_bits w) assigns is_operand (omega (arith, width))) (value-wire assigns y) in
    let none : 1 * (((P - 1) * (a / 2 ^ place_bits w) % P + slice_index z y) % P) % P ≡ 0 =
    ap₂ (λ m n. m * n % P) (sym gate) (sym sum) ∙ m1.1.1.1.1.0 in
    let is = closes (a / 2 ^ place_bits w) (slice_index z y) below (wire-below assigns y) none in
    ap (λ n. if n == 0 then 1 else 0) is ∙ below_width w width a
