-- Division by numbers modulo P.
use Rattle.tv_core.proofs.Common.{◌≡◌, ◌≢◌, ℕ, ◌+◌, ◌-◌, ◌*◌, ◌/◌, ◌%◌, ◌^◌, ◌<◌, ◌≤◌, inl, inr, sym, ◌∙◌, ap, arith, mod-lt, zero-mul, cases_eq, nat_tests}
use Rattle.tv_core.proofs.Common.{IsWidth}
use Rattle.std.proofs.Common.{mul-zero}
use Rattle.std.proofs.Common.{one-mul}
use Rattle.std.proofs.Math.Nat.{div-le_self}
use Rattle.std.proofs.lemmas.Nat.{mul-le, div-mul-add, mod-mul-add}
use Rattle.tv_core.specs.declared.field.TheConstants.{P}
use Rattle.tv_bits.proofs.OrderLaws.{IsPrefixDifference-above, first_difference-some, first_difference-below, IsPrefixDifference-first, first_difference-none}
use Rattle.tv_bits.proofs.OrderLaws.{IsPrefixDifference-none}
use Rattle.tv_bits.proofs.ZeroLaws.{zero_flag-zero, zero_flag-other}
use Rattle.tv_bits.specs.Bit.{IsBit}
use Rattle.tv_bits.specs.Order.{IsPrefixDifference}
use Rattle.tv_bits.specs.Zero.{zero_flag}
use Rattle.tv_word.specs.Operations.{udiv_result, umod_result}
use Rattle.tv_row_products.proofs.DivisionCases.{quotient-zero, quotient-other, remainder-zero, remainder-other, remainder-below}
use Rattle.tv_muldiv.specs.Quotient.{gate_in, above_in}

-- what the constraints say of numbers: of the words a and b of w bits, the quotient q, the remainder r, whether b is 0,
-- the gate, and one less than by how much b is above r
pub record Divides (w a b q r by_zero gate above : ℕ) : Type 0 where
  pub bit : IsBit by_zero
  pub zero : by_zero * b % P ≡ 0
  pub gated : by_zero * ((a + q) % P) % P ≡ gate
  pub whole : q * b % P ≡ ((a + (P - r)) % P + (P - gate)) % P
  pub below : IsPrefixDifference (w / 4) 4 b r (((above + 1) % P + (P - by_zero)) % P)

-- ---- the words are small
pub quotient-small : (a b most : ℕ) → a < most → udiv_result a b < most
quotient-small a b most h = let less = div-le_self a b in grind (arith, nat_tests)

pub remainder-small : (a b most : ℕ) → b < most → umod_result a b < most
remainder-small a b most h = grind (arith, nat_tests, mod-lt)

-- ---- by how much the divisor is above the remainder
module _ (w : ℕ) (width : IsWidth w) (a b : ℕ) where
  above-zero : b ≡ 0 → above_in w a b ≡ 0
  above-zero none = first_difference-none (w / 4) 4 b (umod_result a b) (omega (arith, none))

  above-some : b < 2 ^ w → b ≢ 0 → 0 < above_in w a b
  above-some h some = first_difference-some w (w / 4) 4 b (umod_result a b) (grind arith) (grind arith) h (remainder-below a b some)

  pub above-below : b < 2 ^ w → above_in w a b < 2 ^ (w / 4)
  above-below h = elim (cases_eq b 0) [
    | inl none ↦ let zero = above-zero none in grind arith
    | inr some ↦ first_difference-below w (w / 4) 4 b (umod_result a b) (grind arith) (grind arith) h (remainder-below a b some)
  ]

  -- the difference that the constraints hold
  pub above-difference : b < 2 ^ w → ((above_in w a b - 1 + 1) % P + (P - zero_flag b)) % P ≡ above_in w a b
  above-difference h = elim (cases_eq b 0) [
    | inl none ↦ omega (arith, above-zero none, zero_flag-zero b none)
    | inr some ↦ let below = above-below h in let small : above_in w a b < 2 ^ 8 = grind arith in omega (arith, above-some h some, zero_flag-other b some)
  ]

  above-is : b < 2 ^ w → IsPrefixDifference (w / 4) 4 b (umod_result a b) (above_in w a b)
  above-is h = search (arith, cases_eq, above-zero, remainder-zero, IsPrefixDifference-none, IsPrefixDifference-first, remainder-below)

-- ---- from the constraints to the division
no_gate : (flag c gate : ℕ) → flag ≡ 0 → flag * c % P ≡ gate → gate ≡ 0
no_gate flag c gate none e = sym e ∙ ap (λ n. n * c % P) none ∙ ap (λ n. n % P) (zero-mul c)

gate_is : (flag c gate : ℕ) → flag ≡ 1 → flag * c % P ≡ gate → gate ≡ c % P
gate_is flag c gate one e = sym e ∙ ap (λ n. n * c % P) one ∙ ap (λ n. n % P) (one-mul c)

whole_of : (w : ℕ) → IsWidth w → (a r m gate : ℕ) → a < 2 ^ w → r < 2 ^ w → m ≤ (2 ^ w - 1) * (2 ^ w - 1) → gate ≡ 0
    → m % P ≡ ((a + (P - r)) % P + (P - gate)) % P → m + r ≡ a
whole_of w width a r m gate h k l none e = grind arith

nothing_of : (w : ℕ) → IsWidth w → (a q r m gate : ℕ) → a < 2 ^ w → q < 2 ^ w → r < 2 ^ w → m ≡ 0 → gate ≡ (a + q) % P % P
    → m % P ≡ ((a + (P - r)) % P + (P - gate)) % P → (q ≡ 0) × (r ≡ 0)
nothing_of w width a q r m gate h k l none is e = (grind arith, grind arith)

pub record IsDivided (a b q r by_zero : ℕ) : Type 0 where
  pub quot : q ≡ udiv_result a b
  pub rem : r ≡ umod_result a b
  pub zero : by_zero ≡ zero_flag b

module _ (w : ℕ) (width : IsWidth w) (a b q r by_zero gate above : ℕ) (h : a < 2 ^ w) (k : b < 2 ^ w) (l : q < 2 ^ w) (m : r < 2 ^ w)
    (small : above < 2 ^ (w / 4))
    (d : Divides w a b q r by_zero gate above) where
  divided_by_some : by_zero ≡ 0 → IsDivided a b q r by_zero
  divided_by_some none =
      let difference : ((above + 1) % P + (P - by_zero)) % P ≡ above + 1 = grind arith in
      let less : r < b = IsPrefixDifference-above w (w / 4) 4 b r (above + 1) (grind arith) (grind arith) k m (omega arith) (omega arith)
      (rw difference at d.below) in
      let some : b ≢ 0 = λ zero. omega arith in
      let whole : q * b + r ≡ a = whole_of w width a r (q * b) gate h m (mul-le q b (2 ^ w - 1) (2 ^ w - 1) (omega arith) (omega arith))
      (no_gate by_zero ((a + q) % P) gate none d.gated) d.whole in
      record {
        quot = sym (quotient-other a b some ∙ ap (λ n. n / b) (sym whole) ∙ div-mul-add q b r less);
        rem = sym (remainder-other a b some ∙ ap (λ n. n % b) (sym whole) ∙ mod-mul-add q b r less);
        zero = none ∙ sym (zero_flag-other b some);
      }

  divided_by_zero : by_zero ≡ 1 → IsDivided a b q r by_zero
  divided_by_zero one =
      let zero : b ≡ 0 = let e = gate_is by_zero b 0 one d.zero in grind arith in
      let nothing = nothing_of w width a q r (q * b) gate h l m (ap (λ n. q * n) zero ∙ mul-zero q) (gate_is by_zero ((a + q) % P) gate one d.gated) d.whole in
      record { quot = nothing.0 ∙ sym (quotient-zero a b zero); rem = nothing.1 ∙ sym (remainder-zero a b zero); zero = one ∙ sym (zero_flag-zero b zero) }

  pub Divides-sound : IsDivided a b q r by_zero
  Divides-sound = elim (cases_eq by_zero 0) [
    | inl none ↦ divided_by_some none
    | inr some ↦ divided_by_zero (let bit = d.bit in omega arith)
  ]

-- ---- and the other way round
module _ (w : ℕ) (width : IsWidth w) (a b : ℕ) (h : a < 2 ^ w) (k : b < 2 ^ w) where
  flag_bit : IsBit (zero_flag b)
  flag_bit = grind (arith, nat_tests)

  no_divisor : zero_flag b * b % P ≡ 0
  no_divisor = grind (arith, nat_tests)

  gated : zero_flag b * ((a + udiv_result a b) % P) % P ≡ gate_in a b
  gated = grind (arith, nat_tests)

  whole : udiv_result a b * b % P ≡ ((a + (P - umod_result a b)) % P + (P - gate_in a b)) % P
  whole = search (arith, cases_eq, mul-zero)

  pub Divides-complete : Divides w a b (udiv_result a b) (umod_result a b) (zero_flag b) (gate_in a b) (above_in w a b - 1)
  Divides-complete = record {
    bit = flag_bit;
    zero = no_divisor;
    gated = gated;
    whole = whole;
    below = let same = above-difference w width a b k in rw same (above-is w width a b k);
  }
