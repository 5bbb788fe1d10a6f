-- A product that is 0, and by it a number that is the difference of two prefixes.
use Rattle.std.specs.Prelude.{◌≡◌, ℕ, zero, suc, ◌+◌, ◌-◌, ◌*◌, ◌%◌, ◌≤◌, List, []}
use Rattle.tv_bits.specs.Bits.{HasBits, bits_combination}
use Rattle.tv_bits.specs.Order.{prefix_difference, IsPrefixDifference}
use Rattle.tv_bits.specs.Times.{times_of}
use Rattle.tv_bits.specs.declared.bit_wires.Bits.{Bits}
use Rattle.tv_core.specs.Below.{each_below}
use Rattle.tv_core.specs.Circuits.{Circuit, put, pure, turns, ◌>>=◌}
use Rattle.tv_core.specs.Combinations.{wire, less}
use Rattle.tv_core.specs.Constraints.{Combination, value}
use Rattle.tv_core.specs.Laws.{Assigns, Meets, HasFrom, Fills, InField}
use Rattle.tv_core.specs.declared.field.TheConstants.{P}

-- ---- a product that is 0
-- a new wire that is the product so far times the factor after it
unfoldable pub next_product : (ℕ → Combination) → ℕ → Combination → Circuit Combination
next_product factor i product = do
  m ← times_of product (factor (i + 1))
  pure (wire m)

-- of t factors, at least 2, the product is 0
unfoldable pub zero_product_of : (ℕ → Combination) → ℕ → Circuit (Unit {0})
zero_product_of factor t = do
  product ← turns (t - 2) (next_product factor) (factor 0)
  put product (factor (t - 1)) []

-- f 0 * f 1 * .. * f (n - 1)
abbrev pub product_below : ℕ → (ℕ → ℕ) → ℕ
product_below zero f = 1
product_below (suc n) f = product_below n f * f n

-- the values of the wires that are made: the products of the first two, three, .. and t - 1 factors
abbrev pub products_values : (ℕ → ℕ) → ℕ → List ℕ
products_values f t = each_below (t - 2) (λ i. product_below (i + 2) f % P)

-- ---- a difference of two prefixes
-- the number that the bits from place p on represent, without the p lowest
abbrev pub prefix : Bits → ℕ → Combination
prefix x p = bits_combination (x.first + p) (x.n - p)

-- the difference of the prefixes of x and y from place p on, less d; and the same for numbers
abbrev pub prefix_less : Bits → Bits → Combination → ℕ → Combination
prefix_less x y d p = less (less (prefix x p) (prefix y p)) d

abbrev pub prefix_less_in : ℕ → ℕ → ℕ → ℕ → ℕ
prefix_less_in x y d p = (prefix_difference x y p + (P - d)) % P

-- d is the difference of the numbers that x and y represent in one of the t prefixes, cut by c bits
unfoldable pub prefix_difference_of : Bits → Bits → Combination → ℕ → ℕ → Circuit (Unit {0})
prefix_difference_of x y d c t = zero_product_of (λ j. prefix_less x y d (c * j)) t

-- the values of the wires that are made
abbrev pub prefix_difference_values : ℕ → ℕ → ℕ → ℕ → ℕ → List ℕ
prefix_difference_values x y d c t = products_values (λ j. prefix_less_in x y d (c * j)) t

-- in an assignment that satisfies the constraints, d is the difference of some prefixes
abbrev pub PrefixDifferenceIsSound : Type 0
PrefixDifferenceIsSound = (z : List ℕ) (next : ℕ) (x y : Bits) (d : Combination) (c t v w : ℕ)
    → 2 ≤ t → c * (t - 1) ≤ x.n → c * (t - 1) ≤ y.n → x.n ≤ 63 → y.n ≤ 63
    → Assigns z → HasBits z x.first x.n v → HasBits z y.first y.n w → Meets z (prefix_difference_of x y d c t next).list
    → IsPrefixDifference c t v w (value d z)

-- where d is one, an assignment that has these values at the wires that were made satisfies the constraints
abbrev pub PrefixDifferenceIsComplete : Type 0
PrefixDifferenceIsComplete = (z : List ℕ) (next : ℕ) (x y : Bits) (d : Combination) (c t v w : ℕ)
    → 2 ≤ t → c * (t - 1) ≤ x.n → c * (t - 1) ≤ y.n → x.n ≤ 63 → y.n ≤ 63
    → Assigns z → HasBits z x.first x.n v → HasBits z y.first y.n w → IsPrefixDifference c t v w (value d z)
    → HasFrom z next (prefix_difference_values v w (value d z) c t) → Meets z (prefix_difference_of x y d c t next).list

-- the values are one number of the field for each wire that is made
pub record PrefixDifferenceSizes : Type 0 where
  pub end : (x y : Bits) (d : Combination) (c t next : ℕ) → (prefix_difference_of x y d c t next).next ≡ next + (t - 2)
  pub fills : (x y : Bits) (d : Combination) (c t v w e : ℕ) → Fills (prefix_difference_of x y d c t) (prefix_difference_values v w e c t)
  pub in_field : (c t v w e : ℕ) → InField (prefix_difference_values v w e c t)
