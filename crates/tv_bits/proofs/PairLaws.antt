-- The laws of two ands in one constraint.
use Rattle.tv_core.proofs.Common.{◌≡◌, ℕ, ◌+◌, ◌-◌, ◌*◌, ◌%◌, ◌++◌, List, inl, inr, refl, sym, ◌∙◌, ap, ap₂, arith, mod-eq_of_lt, value-append, value-below}
use Rattle.tv_core.proofs.Common.{put, constant, Combination, value, Assigns}
use Rattle.std.proofs.Math.Nat.{add-mod-mod, mod-add-mod}
use Rattle.std.proofs.lemmas.Nat.{mul-mod, mul-mod_first}
use Rattle.tv_core.proofs.CombinationLaws.{value-scaled, value-constant}
use Rattle.tv_core.proofs.Residues.{add-mod_same, mul-mod_same, add_cancel-mod, add-mul-neg-mod, mul_cancel-mod}
use Rattle.tv_core.specs.declared.field.TheConstants.{P}
use Rattle.tv_bits.proofs.BitLaws.{bit_cases}
use Rattle.tv_bits.specs.Bit.{IsBit}
use Rattle.tv_bits.specs.Pairs.{plus_times, negative, side, two_ands_of, TwoAndsAreSound, TwoAndsAreComplete}

-- ---- numbers
-- the square of the sum of two bits
square_sum : (x y : ℕ) → IsBit x → IsBit y → (x + y) * (x + y) ≡ x + y + 2 * (x * y)
square_sum x y h k = elim (bit_cases x h) [
  | inl p ↦ elim (bit_cases y k) [ inl q ↦ rw (p, q) refl | inr q ↦ rw (p, q) refl ]
  | inr p ↦ elim (bit_cases y k) [ inl q ↦ rw (p, q) refl | inr q ↦ rw (p, q) refl ]
]

-- the square of one more than the difference of two bits
square_gap : (x y : ℕ) → IsBit x → IsBit y → 1 + 3 * x - y ≡ (1 + x - y) * (1 + x - y) + 2 * (x * y)
square_gap x y h k = search (arith, bit_cases)

-- k times and less k times is nothing
nothing : (a k x : ℕ) → (a + (k * x + negative k * x)) % P ≡ a % P
nothing a k x = add-mod_same a a (k * x + negative k * x) 0 P refl (add-mul-neg-mod k x P (omega arith)) ∙ ap (λ n. n % P) (omega arith)

-- u + γ v times u - γ v is the difference of their squares
squares : (u v γ : ℕ) → ((u + γ * v) * (u + negative γ * v) + γ * γ * (v * v)) % P ≡ u * u % P
squares u v γ =
    let regroup : (n : ℕ) → (u + γ * v) * (u + n * v) + γ * γ * (v * v) ≡ u * u + (γ * (u * v + γ * (v * v)) + n * (u * v + γ * (v * v))) = λ n. omega arith in
    ap (λ k. k % P) (regroup (negative γ)) ∙ nothing (u * u) γ (u * v + γ * (v * v))

-- the two sides of the constraint, each with γ² w added; e and f are the products of the pairs
module _ (u v w e f γ m : ℕ) (sum : u * u ≡ u + 2 * e) (difference : w ≡ v * v + 2 * f) where
  left_side : ((u + γ * v) * (u + negative γ * v) + γ * γ * w) % P ≡ (u + 2 * (e + γ * γ * f)) % P
  left_side =
      let split : γ * γ * w ≡ γ * γ * (v * v) + 2 * (γ * γ * f) = ap (λ k. γ * γ * k) difference ∙ omega arith in
      let moved : (a : ℕ) → a + γ * γ * w ≡ a + γ * γ * (v * v) + 2 * (γ * γ * f) = λ a. omega arith in
      let last : u * u + 2 * (γ * γ * f) ≡ u + 2 * (e + γ * γ * f) = omega arith in
      ap (λ k. k % P) (moved ((u + γ * v) * (u + negative γ * v)))
      ∙ add-mod_same ((u + γ * v) * (u + negative γ * v) + γ * γ * (v * v)) (u * u) (2 * (γ * γ * f)) (2 * (γ * γ * f)) P (squares u v γ) refl
      ∙ ap (λ k. k % P) last

  right_side : ((u + 2 * m + negative (γ * γ) * w) + γ * γ * w) % P ≡ (u + 2 * m) % P
  right_side =
      let moved : (n : ℕ) → (u + 2 * m + n) + γ * γ * w ≡ u + 2 * m + (γ * γ * w + n) = λ n. omega arith in
      ap (λ k. k % P) (moved (negative (γ * γ) * w)) ∙ nothing (u + 2 * m) (γ * γ) w

  -- 2 cancels, by its inverse
  met_of : (u + γ * v) * (u + negative γ * v) % P ≡ (u + 2 * m + negative (γ * γ) * w) % P → m % P ≡ (e + γ * γ * f) % P
  met_of h = search (arith, left_side, add-mod_same, right_side, mul_cancel-mod, add_cancel-mod)

  of_met : m % P ≡ (e + γ * γ * f) % P → (u + γ * v) * (u + negative γ * v) % P ≡ (u + 2 * m + negative (γ * γ) * w) % P
  of_met h = search (arith, add-mod_same, mul-mod_same, left_side, right_side, add_cancel-mod)

-- ---- the values of the combinations
module _ {z : List ℕ} (assigns : Assigns z) where
  value-plus_times : (x : Combination) (k : ℕ) (y : Combination) → value (plus_times x k y) z ≡ (value x z + k * value y z) % P
  value-plus_times x k y =
      value-append x _ z ∙ ap (λ n. (value x z + n) % P) (value-scaled k y z) ∙ add-mod-mod (value x z) (k * value y z) P

  -- d is what c is multiplied by
  value-side : (x_a y_a x_b y_b : Combination) (c k d : ℕ) → d + value y_b z ≡ 1 + k * value x_b z
      → value (side x_a y_a x_b y_b c k) z ≡ (value x_a z + value y_a z + c * d) % P
  value-side x_a y_a x_b y_b c k d gap =
      let first : value (constant c ++ x_a) z ≡ (c + value x_a z) % P = value-append (constant c) x_a z
      ∙ ap (λ n. (n + value x_a z) % P) (value-constant assigns c) ∙ omega arith in
      let second : value ((constant c ++ x_a) ++ y_a) z ≡ (c + value x_a z + value y_a z) % P = value-append (constant c ++ x_a) y_a z
      ∙ ap (λ n. (n + value y_a z) % P) first ∙ omega arith in
      let third : value (plus_times ((constant c ++ x_a) ++ y_a) (c * k % P) x_b) z ≡ (c + value x_a z + value y_a z + c * k * value x_b z) % P =
      value-plus_times ((constant c ++ x_a) ++ y_a) (c * k % P) x_b
      ∙ add-mod_same _ (c + value x_a z + value y_a z) (c * k % P * value x_b z) (c * k * value x_b z) P (ap (λ n. n % P) second ∙ omega arith)
      (mul-mod_first (c * k) (value x_b z) P) in
      let times : c * (d + value y_b z) ≡ c * (1 + k * value x_b z) = ap (λ n. c * n) gap in
      let regroup : (n : ℕ) → c + value x_a z + value y_a z + c * k * value x_b z + n * value y_b z
      ≡ value x_a z + value y_a z + c * d + (c * value y_b z + n * value y_b z) = λ n. omega (arith, times) in
      value-plus_times (plus_times ((constant c ++ x_a) ++ y_a) (c * k % P) x_b) (negative c) y_b
      ∙ add-mod_same _ (c + value x_a z + value y_a z + c * k * value x_b z) (negative c * value y_b z) (negative c * value y_b z) P
      (ap (λ n. n % P) third ∙ omega arith) refl
      ∙ ap (λ n. n % P) (regroup (negative c))
      ∙ nothing (value x_a z + value y_a z + c * d) c (value y_b z)

module _ (z : List ℕ) (assigns : Assigns z) (x_a y_a x_b y_b : Combination) (γ : ℕ) (m : Combination) (r : IsBit (value x_b z)) (s : IsBit (value y_b z)) where
  factor : (k : ℕ) → value (side x_a y_a x_b y_b k 1) z ≡ (value x_a z + value y_a z + k * (1 + value x_b z - value y_b z)) % P
  factor k = value-side assigns x_a y_a x_b y_b k 1 (1 + value x_b z - value y_b z) (omega arith)

  product : value (side x_a y_a x_b y_b γ 1) z * value (side x_a y_a x_b y_b (negative γ) 1) z % P
      ≡ (value x_a z + value y_a z + γ * (1 + value x_b z - value y_b z)) * (value x_a z + value y_a z + negative γ * (1 + value x_b z - value y_b z)) % P
  product = ap₂ (λ a b. a * b % P) (factor γ) (factor (negative γ)) ∙ sym (mul-mod _ _ P)

  rest : value (plus_times (side x_a y_a x_b y_b (negative (γ * γ)) 3) 2 m) z
      ≡ (value x_a z + value y_a z + 2 * value m z + negative (γ * γ) * (1 + 3 * value x_b z - value y_b z)) % P
  rest =
      value-plus_times assigns (side x_a y_a x_b y_b (negative (γ * γ)) 3) 2 m
      ∙ ap (λ a. (a + 2 * value m z) % P) (value-side assigns x_a y_a x_b y_b (negative (γ * γ)) 3 (1 + 3 * value x_b z - value y_b z) (omega arith))
      ∙ mod-add-mod (value x_a z + value y_a z + negative (γ * γ) * (1 + 3 * value x_b z - value y_b z)) P (2 * value m z)
      ∙ ap (λ n. n % P) (omega arith)

pub two_ands_sound : TwoAndsAreSound
unfolding two_ands_of put
two_ands_sound z next x_a y_a x_b y_b γ m assigns p q r s meets =
    sym (mod-eq_of_lt (value-below m z))
    ∙ met_of _ _ _ (value x_a z * value y_a z) (value x_b z * value y_b z) γ (value m z) (square_sum (value x_a z) (value y_a z) p q)
    (square_gap (value x_b z) (value y_b z) r s)
    (sym (product z assigns x_a y_a x_b y_b γ m r s) ∙ meets.0 ∙ rest z assigns x_a y_a x_b y_b γ m r s)

pub two_ands_complete : TwoAndsAreComplete
unfolding two_ands_of put
two_ands_complete z next x_a y_a x_b y_b γ m assigns p q r s is = search (arith, product, of_met, square_sum, square_gap, mod-eq_of_lt, value-below, rest)
