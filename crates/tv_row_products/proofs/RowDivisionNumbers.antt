-- The numbers of a division in a row.
use Rattle.tv_core.proofs.Common.{◌≡◌, ◌≢◌, ℕ, ◌+◌, ◌-◌, ◌*◌, ◌/◌, ◌%◌, ◌^◌, ◌<◌, ◌≤◌, ◌==◌, if◌then◌else◌, inl, inr, refl, sym, ◌∙◌, ap, ap₂, arith, zero-mul}
use Rattle.tv_core.proofs.Common.{cases_eq, nat_tests, IsWidth}
use Rattle.std.proofs.Common.{one-mul, mul_comm}
use Rattle.std.proofs.Math.Nat.{mod-mod, div-add-mod, div-le_self}
use Rattle.std.proofs.lemmas.Nat.{mul-le, div-mul-add, mod-mul-add, mul-mod_second}
use Rattle.tv_bits.proofs.RowNumbers.{row_below}
use Rattle.tv_bits.proofs.ZeroLaws.{zero_flag-zero, zero_flag-other}
use Rattle.tv_bits.specs.Bit.{IsBit}
use Rattle.tv_bits.specs.DoubleRow.{IsRow}
use Rattle.tv_bits.specs.Zero.{zero_flag}
use Rattle.tv_core.proofs.Residues.{add-mod_same}
use Rattle.tv_core.specs.declared.field.TheConstants.{P}
use Rattle.tv_row_products.proofs.DivisionCases.{quotient-zero, quotient-other, remainder-zero, remainder-other, remainder-below}
use Rattle.tv_row_products.specs.RowDivision.{below_divisor}
use Rattle.tv_word.specs.Operations.{udiv_result, umod_result}

-- what the constraints say of the numbers at the wires: words a and b, the row's halves, the bit, the word that it keeps,
-- the product of the high half, and the bits' number
pub record Divides (w a b low high by_zero kept product bits : ℕ) : Type 0 where
  pub keeps : by_zero * a % P ≡ kept
  pub multiplies : high * ((b + by_zero) % P) % P ≡ product
  pub parts : a % P ≡ (low + kept + product) % P
  pub below : (b + 2 ^ w * by_zero) % P ≡ (1 + low + bits) % P

pub record IsDivided (a b low high by_zero : ℕ) : Type 0 where
  pub rem : low ≡ umod_result a b
  pub quot : high ≡ udiv_result a b
  pub zero : by_zero ≡ zero_flag b

some_if : (b m : ℕ) → b ≢ 0 → (if b == 0 then 0 else m) ≡ m
some_if b m some = grind (arith, nat_tests)

none_if : (b m : ℕ) → b ≡ 0 → (if b == 0 then 0 else m) ≡ 0
none_if b m none = rw none refl

module _ (w : ℕ) (width : IsWidth w) (a b low high by_zero kept product bits : ℕ) (h : a < 2 ^ w) (g : b < 2 ^ w) (l : bits < 2 ^ w) (bit : IsBit by_zero)
    (r : IsRow w low high) (d : Divides w a b low high by_zero kept product bits) where
  -- the product as a whole number and the sum, modulo P
  sum : a % P ≡ (low + kept + high * (b + by_zero)) % P
  sum = search (arith, mod-mod, mul-mod_second, add-mod_same)

  -- the divisor is another than 0
  some_divisor : by_zero ≡ 0 → IsDivided a b low high by_zero
  some_divisor none =
      let less : low < b = let e = d.below in let low_word = r.low_word in grind arith in
      let keeps : kept ≡ 0 = sym d.keeps ∙ ap (λ n. n * a % P) none ∙ ap (λ n. n % P) (zero-mul a) in
      let same : b + by_zero ≡ b = omega arith in
      let most = mul-le high b (2 ^ w - 1) (2 ^ w - 1) (let high_word = r.high_word in omega arith) (omega arith) in
      let e : a % P ≡ (low + kept + high * b) % P = sum ∙ ap (λ n. (low + kept + high * n) % P) same in
      let whole : high * b + low ≡ a = let low_word = r.low_word in grind arith in
      let some : b ≢ 0 = λ zero. omega arith in
      record {
        quot = sym (some_if b (a / b) some ∙ ap (λ n. n / b) (sym whole) ∙ div-mul-add high b low less);
        rem = sym (some_if b (a % b) some ∙ ap (λ n. n % b) (sym whole) ∙ mod-mul-add high b low less);
        zero = none ∙ sym (zero_flag-other b some);
      }

  -- the divisor is 0: that b + 1 is 2 ^ w is the one place where the row is to be below P
  small_sum : high * (b + 1) + low < P
  small_sum = elim (cases_eq b (2 ^ w - 1)) [
    | inl edge ↦
        let power : b + 1 ≡ 2 ^ w = grind arith in
        let below = row_below w width low high r in
        let same : high * (b + 1) + low ≡ low + 2 ^ w * high = ap (λ n. high * n + low) power ∙ omega (arith, mul_comm high (2 ^ w)) in
        omega arith
    | inr lower ↦
        let high_word = r.high_word in
        let low_word = r.low_word in
        let most = mul-le high (b + 1) (2 ^ w - 1) (2 ^ w - 1) (omega arith) (omega arith) in
        grind arith
  ]

  no_divisor : by_zero ≡ 1 → IsDivided a b low high by_zero
  no_divisor one =
      let keeps : kept ≡ a = sym d.keeps ∙ ap (λ n. n * a % P) one ∙ ap (λ n. n % P) (one-mul a) ∙ grind arith in
      let same : b + by_zero ≡ b + 1 = omega arith in
      let e : a % P ≡ (low + kept + high * (b + 1)) % P = sum ∙ ap (λ n. (low + kept + high * n) % P) same in
      let below = small_sum in
      let nothing : high * (b + 1) + low ≡ 0 = grind arith in
      let rem : low ≡ 0 = omega arith in
      let quot : high ≡ 0 = grind arith in
      let zero : b ≡ 0 = let e = d.below in grind arith in
      record { quot = quot ∙ sym (none_if b (a / b) zero); rem = rem ∙ sym (none_if b (a % b) zero); zero = one ∙ sym (zero_flag-zero b zero) }

  pub Divides-sound : IsDivided a b low high by_zero
  Divides-sound = search (arith, cases_eq, some_divisor, no_divisor)

-- ---- the honest division
parts_some : (a b : ℕ) → b ≢ 0 → udiv_result a b * b + umod_result a b ≡ a
parts_some a b some = ap₂ (λ q r. q * b + r) (quotient-other a b some) (remainder-other a b some) ∙ ap (λ n. n + a % b) (mul_comm (a / b) b) ∙ div-add-mod a b

edge_some : (w a b : ℕ) → a < 2 ^ w → b ≢ 0 → udiv_result a b ≡ 2 ^ w - 1 → umod_result a b ≡ 0
edge_some w a b h some full =
    let whole : (2 ^ w - 1) * b + umod_result a b ≡ a = ap (λ q. q * b + umod_result a b) (sym full) ∙ parts_some a b some in
    let most : (2 ^ w - 1) * 1 ≤ (2 ^ w - 1) * b = mul-le (2 ^ w - 1) 1 (2 ^ w - 1) b (omega arith) (omega arith) in
    omega arith

module _ (w : ℕ) (width : IsWidth w) (a b : ℕ) (h : a < 2 ^ w) (k : b < 2 ^ w) where
  pub division_row : IsRow w (umod_result a b) (udiv_result a b)
  division_row = search (arith, cases_eq, quotient-zero, remainder-zero, quotient-other, remainder-below, div-le_self, edge_some)

  pub below_word : below_divisor w a b < 2 ^ w
  below_word = search (arith, cases_eq, zero_flag-zero, remainder-zero, zero_flag-other, remainder-below)

  met_zero : b ≡ 0 → Divides w a b (umod_result a b) (udiv_result a b) (zero_flag b) (zero_flag b * a % P) (udiv_result a b * ((b + zero_flag b) % P) % P)
      (below_divisor w a b)
  met_zero none =
      let z = zero_flag-zero b none in
      let r = remainder-zero a b none in
      let q = quotient-zero a b none in
      record {
        keeps = refl;
        multiplies = refl;
        parts = sym (ap₂ (λ m n. (umod_result a b + m + n) % P) (ap (λ m. m * a % P) z
            ∙ ap (λ n. n % P) (one-mul a)) (ap (λ m. m * ((b + zero_flag b) % P) % P) q ∙ ap (λ n. n % P) (zero-mul ((b + zero_flag b) % P))) ∙ grind arith);
        below = ap (λ n. n % P) (grind arith);
      }

  met_some : b ≢ 0 → Divides w a b (umod_result a b) (udiv_result a b) (zero_flag b) (zero_flag b * a % P) (udiv_result a b * ((b + zero_flag b) % P) % P)
      (below_divisor w a b)
  met_some some =
      let z = zero_flag-other b some in
      let less = remainder-below a b some in
      let one : (b + zero_flag b) % P ≡ b = grind arith in
      let whole = parts_some a b some in
      record {
        keeps = refl;
        multiplies = refl;
        parts = sym (ap₂ (λ m n. (umod_result a b + m + n) % P) (ap (λ m. m * a % P) z
            ∙ ap (λ n. n % P) (zero-mul a)) (ap (λ m. udiv_result a b * m % P) one) ∙ grind arith);
        below = ap (λ n. n % P) (grind arith);
      }

  pub division_met : Divides w a b (umod_result a b) (udiv_result a b) (zero_flag b) (zero_flag b * a % P) (udiv_result a b * ((b + zero_flag b) % P) % P)
      (below_divisor w a b)
  division_met = elim (cases_eq b 0) [ inl none ↦ met_zero none | inr some ↦ met_some some ]
