-- The laws of a product that is 0, and of a number that is a difference of prefixes.
use Rattle.tv_core.proofs.Common.{◌≡◌, ℕ, zero, suc, ◌+◌, ◌-◌, ◌*◌, ◌/◌, ◌%◌, ◌^◌, ◌<◌, ◌≤◌, List, [], length, inl, inr, refl, sym, subst, ◌∙◌, ap, ap₂, arith}
use Rattle.tv_core.proofs.Common.{mod-lt, zero-mul, mod-eq_of_lt, slice_index, cases_eq, length-each_below, value-less, value-below, value-wire, fresh, put}
use Rattle.tv_core.proofs.Common.{pure, turns, ◌>>=◌, Combination, value, Assigns, Meets, HasFrom, InField}
use Rattle.std.proofs.Common.{mul-zero, mul-one, one-mul}
use Rattle.std.proofs.Math.Nat.{mul-le-mul_left}
use Rattle.std.proofs.lemmas.Nat.{mul-mod_first}
use Rattle.tv_core.proofs.BelowLaws.{has_each}
use Rattle.tv_core.proofs.DifferenceLaws.{same_of_minus}
use Rattle.tv_core.proofs.FieldLaws.{InField-each_below}
use Rattle.tv_core.proofs.LoopLaws.{turns-next}
use Rattle.tv_core.proofs.MeetsLaws.{parts, whole}
use Rattle.tv_core.proofs.PrimeLaws.{p_zero_product_below}
use Rattle.tv_core.specs.declared.field.TheConstants.{P}
use Rattle.tv_bits.proofs.BitNumbers.{HasBits-high, value-bits_below}
use Rattle.tv_bits.specs.Bits.{HasBits}
use Rattle.tv_bits.specs.Order.{prefix_difference}
use Rattle.tv_bits.specs.Prefixes.{next_product, zero_product_of, product_below, products_values, prefix, prefix_less, prefix_less_in, prefix_difference_of}
use Rattle.tv_bits.specs.Prefixes.{PrefixDifferenceIsSound, PrefixDifferenceIsComplete, PrefixDifferenceSizes}
use Rattle.tv_bits.specs.Times.{times_of}
use Rattle.tv_bits.specs.declared.bit_wires.Bits.{Bits}

-- ---- a product that is 0
next_product-next : (factor : ℕ → Combination) (i : ℕ) (product : Combination) (at : ℕ) → (next_product factor i product at).next ≡ at + 1
unfolding next_product times_of fresh put pure ◌>>=◌
next_product-next factor i product at = refl

products-next : (factor : ℕ → Combination) (next k : ℕ) → (turns k (next_product factor) (factor 0) next).next ≡ next + k
products-next factor next k = turns-next (next_product factor) (factor 0) next 1 k (next_product-next factor) ∙ ap (λ n. next + n) (mul-one k)

pub zero_product_next : (factor : ℕ → Combination) (t next : ℕ) → (zero_product_of factor t next).next ≡ next + (t - 2)
unfolding zero_product_of put ◌>>=◌
zero_product_next factor t next = products-next factor next (t - 2)

-- what a turn put, as numbers
turn_sound : (z : List ℕ) (factor : ℕ → Combination) (i : ℕ) (product : Combination) (at : ℕ) → Assigns z → Meets z (next_product factor i product at).list
    → value product z * value (factor (i + 1)) z % P ≡ value (next_product factor i product at).answer z
unfolding next_product times_of fresh put pure ◌>>=◌
turn_sound z factor i product at assigns meets = meets.0

turn_complete : (z : List ℕ) (factor : ℕ → Combination) (i : ℕ) (product : Combination) (at : ℕ) → Assigns z
    → value product z * value (factor (i + 1)) z % P ≡ slice_index z at
    → Meets z (next_product factor i product at).list × (value (next_product factor i product at).answer z ≡ slice_index z at)
unfolding next_product times_of fresh put pure ◌>>=◌
turn_complete z factor i product at assigns e = ((e ∙ sym (value-wire assigns at), tt), value-wire assigns at)

-- where the product of k + 1 factors is 0, one of them is
record HasZero (z : List ℕ) (factor : ℕ → Combination) (t : ℕ) : Type 0 where
  place : ℕ
  within : place < t
  is : value (factor place) z ≡ 0

products_sound : (z : List ℕ) (factor : ℕ → Combination) (next k : ℕ) → Assigns z → Meets z (turns k (next_product factor) (factor 0) next).list
    → value (turns k (next_product factor) (factor 0) next).answer z ≡ 0 → HasZero z factor (k + 1)
unfolding turns pure ◌>>=◌
products_sound z factor next zero assigns meets none = record { place = 0; within = omega arith; is = none }
products_sound z factor next (suc k) assigns meets none =
    let before = turns k (next_product factor) (factor 0) in
    let both = parts z before (next_product factor k) next meets in
    let product = turn_sound z factor k (before next).answer (before next).next assigns both.1 ∙ none in
    elim (p_zero_product_below _ _ (value-below (before next).answer z) (value-below (factor (k + 1)) z) product) [
      | inl first ↦ let rest = products_sound z factor next k assigns both.0 first in
          record { place = rest.place; within = omega (arith, rest.within); is = rest.is }
      | inr last ↦ record { place = k + 1; within = omega arith; is = last }
    ]

pub product_below-suc : (n m : ℕ) (f : ℕ → ℕ) → m ≡ suc n → product_below m f ≡ product_below n f * f n
product_below-suc n m f e = ap (λ k. product_below k f) e

product_below-zero : (n i : ℕ) (f : ℕ → ℕ) → i < n → f i ≡ 0 → product_below n f ≡ 0
product_below-zero zero i f h none = absurd (omega arith)
product_below-zero (suc n) i f h none =
    elim (cases_eq i n) [
      | inl same ↦ ap (λ k. product_below n f * k) (ap f (sym same) ∙ none) ∙ mul-zero (product_below n f)
      | inr apart ↦ ap (λ k. k * f n) (product_below-zero n i f (omega arith) none) ∙ zero-mul (f n)
    ]

products_complete : (z : List ℕ) (factor : ℕ → Combination) (f : ℕ → ℕ) (next k : ℕ) → Assigns z → ((j : ℕ) → j ≤ k → value (factor j) z ≡ f j)
    → ((i : ℕ) → i < k → slice_index z (next + i) ≡ product_below (i + 2) f % P)
    → Meets z (turns k (next_product factor) (factor 0) next).list
    × (value (turns k (next_product factor) (factor 0) next).answer z ≡ product_below (k + 1) f % P)
unfolding turns pure ◌>>=◌
products_complete z factor f next zero assigns is has =
    let first = is 0 (omega arith) in
    (tt, sym (mod-eq_of_lt (value-below (factor 0) z)) ∙ ap (λ n. n % P) (first ∙ sym (one-mul (f 0))))
products_complete z factor f next (suc k) assigns is has =
    let before = turns k (next_product factor) (factor 0) in
    let rest = products_complete z factor f next k assigns (λ j h. is j (omega arith)) (λ i h. has i (omega arith)) in
    let place : suc k + 1 ≡ suc (k + 1) = omega arith in
    let again : k + 2 ≡ suc k + 1 = omega arith in
    let product : value (before next).answer z * value (factor (k + 1)) z % P ≡ product_below (suc k + 1) f % P =
    ap₂ (λ m n. m * n % P) rest.1 (is (k + 1) (omega arith)) ∙ mul-mod_first (product_below (k + 1) f) (f (k + 1)) P
    ∙ ap (λ n. n % P) (sym (product_below-suc (k + 1) (suc k + 1) f place)) in
    let given : slice_index z (before next).next ≡ product_below (suc k + 1) f % P =
    ap (λ n. slice_index z n) (products-next factor next k) ∙ has k (omega arith) ∙ ap (λ n. product_below n f % P) again in
    let turn = turn_complete z factor k (before next).answer (before next).next assigns (product ∙ sym given) in
    (whole z before (next_product factor k) next rest.0 turn.0, turn.1 ∙ given)

pub zero_product_sound : (z : List ℕ) (factor : ℕ → Combination) (t next : ℕ) → 2 ≤ t → Assigns z → Meets z (zero_product_of factor t next).list
    → (i : ℕ) × (i < t) × (value (factor i) z ≡ 0)
unfolding zero_product_of put
zero_product_sound z factor t next two assigns meets = search (arith, parts, p_zero_product_below, value-below, products_sound)

-- f being the factors' values
pub zero_product_complete : (z : List ℕ) (factor : ℕ → Combination) (f : ℕ → ℕ) (t i next : ℕ) → 2 ≤ t → Assigns z
    → ((j : ℕ) → j < t → value (factor j) z ≡ f j)
    → i < t → f i ≡ 0 → HasFrom z next (products_values f t) → Meets z (zero_product_of factor t next).list
unfolding zero_product_of put
zero_product_complete z factor f t i next two assigns is within none has =
    let products = turns (t - 2) (next_product factor) (factor 0) in
    let rest = products_complete z factor f next (t - 2) assigns (λ j h. is j (omega arith)) (has_each z next (t - 2) (λ j. product_below (j + 2) f % P) has) in
    let place : t ≡ suc (t - 1) = omega arith in
    let again : t - 2 + 1 ≡ t - 1 = omega arith in
    let product : value (products next).answer z * value (factor (t - 1)) z % P ≡ 0 =
    ap₂ (λ m n. m * n % P) (rest.1 ∙ ap (λ n. product_below n f % P) again) (is (t - 1) (omega arith)) ∙ mul-mod_first (product_below (t - 1) f) (f (t - 1)) P
    ∙ ap (λ n. n % P) (sym (product_below-suc (t - 1) t f place) ∙ product_below-zero t i f within none) in
    whole z products (λ product. put product (factor (t - 1)) []) next rest.0 (product, tt)

-- ---- a difference of two prefixes
value-prefix : (z : List ℕ) (x : Bits) (p v : ℕ) → p ≤ x.n → x.n ≤ 63 → HasBits z x.first x.n v → value (prefix x p) z ≡ v / 2 ^ p
value-prefix z x p v within short s =
    let whole : x.n ≡ p + (x.n - p) = omega arith in
    value-bits_below (HasBits-high z x.first p (x.n - p) v (subst (λ n. HasBits z x.first n v) whole s)) (omega arith)

module _ (z : List ℕ) (x y : Bits) (d : Combination) (v w : ℕ) (x_short : x.n ≤ 63) (y_short : y.n ≤ 63) (s : HasBits z x.first x.n v)
    (r : HasBits z y.first y.n w) where
  value-prefix_less : (p : ℕ) → p ≤ x.n → p ≤ y.n → value (prefix_less x y d p) z ≡ prefix_less_in v w (value d z) p
  value-prefix_less p h k = search (arith, value-less, value-prefix)

-- a place of t chunks lies within
place_within : (c t n i : ℕ) → i < t → c * (t - 1) ≤ n → c * i ≤ n
place_within c t n i h k = let most : i ≤ t - 1 = omega arith in let place = mul-le-mul_left c most in omega arith

difference_same : (a d : ℕ) → a < P → d < P → a ≡ d → (a + (P - d)) % P ≡ 0
difference_same a d h k e = omega arith

pub prefix_difference_next : (x y : Bits) (d : Combination) (c t next : ℕ) → (prefix_difference_of x y d c t next).next ≡ next + (t - 2)
unfolding prefix_difference_of
prefix_difference_next x y d c t next = zero_product_next (λ j. prefix_less x y d (c * j)) t next

pub prefix_difference_sound : PrefixDifferenceIsSound
unfolding prefix_difference_of
prefix_difference_sound z next x y d c t v w two x_long y_long x_short y_short assigns s r meets =
    let found = zero_product_sound z (λ j. prefix_less x y d (c * j)) t next two assigns meets in
    let p = c * found.0 in
    let none = sym (value-prefix_less z x y d v w x_short y_short s r p (place_within c t x.n found.0 found.1 x_long)
    (place_within c t y.n found.0 found.1 y_long)) ∙ found.2 in
    record { chunk = found.0; within = found.1; is = same_of_minus (prefix_difference v w p) (value d z) (mod-lt _ (omega arith)) (value-below d z) none }

pub prefix_difference_complete : PrefixDifferenceIsComplete
unfolding prefix_difference_of
prefix_difference_complete z next x y d c t v w two x_long y_long x_short y_short assigns s r i has =
    let is : (j : ℕ) → j < t → value (prefix_less x y d (c * j)) z ≡ prefix_less_in v w (value d z) (c * j) =
    λ j h. value-prefix_less z x y d v w x_short y_short s r (c * j) (place_within c t x.n j h x_long) (place_within c t y.n j h y_long) in
    let none = difference_same (prefix_difference v w (c * i.chunk)) (value d z) (mod-lt _ (omega arith)) (value-below d z) i.is in
    zero_product_complete z (λ j. prefix_less x y d (c * j)) (λ j. prefix_less_in v w (value d z) (c * j)) t i.chunk next two assigns is i.within none has

-- ---- the products, one factor after another
pub first_factor : (x y d c : ℕ) → prefix_less_in x y d 0 ≡ product_below 1 (λ j. prefix_less_in x y d (c * j)) % P
first_factor x y d c =
    sym (mod-eq_of_lt (mod-lt _ (omega arith))) ∙ ap (λ n. n % P) (ap (λ p. prefix_less_in x y d p) (sym (mul-zero c)) ∙ sym (one-mul _))

pub next_factor : (i : ℕ) (f : ℕ → ℕ) (product factor : ℕ) → product ≡ product_below (i + 1) f % P → factor ≡ f (i + 1)
    → product * factor % P ≡ product_below (i + 2) f % P
next_factor i f product factor is has =
    let place : i + 2 ≡ suc (i + 1) = omega arith in
    ap₂ (λ m n. m * n % P) is has ∙ mul-mod_first (product_below (i + 1) f) (f (i + 1)) P ∙ ap (λ n. n % P) (sym (product_below-suc (i + 1) (i + 2) f place))

-- ---- how many values there are
pub products_in_field : (f : ℕ → ℕ) (t : ℕ) → InField (products_values f t)
products_in_field f t = InField-each_below (λ i. product_below (i + 2) f % P) (λ i. mod-lt _ (omega arith)) (t - 2)

pub length-products : (f : ℕ → ℕ) (t : ℕ) → length (products_values f t) ≡ t - 2
length-products f t = length-each_below (t - 2) (λ i. product_below (i + 2) f % P)

pub prefix_difference_sizes : PrefixDifferenceSizes
prefix_difference_sizes = record {
  end = prefix_difference_next;
  fills = λ x y d c t v w e next. prefix_difference_next x y d c t next ∙ ap (λ n. next + n) (sym (length-products (λ j. prefix_less_in v w e (c * j)) t));
  in_field = λ c t v w e. products_in_field (λ j. prefix_less_in v w e (c * j)) t;
}
