-- One switch as constraints: it has two items and a bit, which passes them where it is 0 and exchanges them where it is
-- 1. A bound switch makes a wire for each number that it passes on; an open one makes two products only, and what it
-- passes on are sums with them.
use Rattle.std.specs.Prelude.{◌≡◌, ℕ, ◌+◌, ◌-◌, ◌%◌, ◌<◌, ◌≤◌, ◌==◌, Bool, true, false, if◌then◌else◌, List, [], ◌∷◌, ◌++◌, length, slice_index}
use Rattle.tv_bits.specs.Bit.{IsBit, bit_of}
use Rattle.tv_bits.specs.Select.{select_of}
use Rattle.tv_core.specs.Circuits.{Circuit, fresh, put, pure, ◌>>=◌}
use Rattle.tv_core.specs.Combinations.{top, wire, constant, less}
use Rattle.tv_core.specs.Constraints.{Combination}
use Rattle.tv_core.specs.Laws.{Assigns, Meets, HasFrom, Fills, InField}
use Rattle.tv_core.specs.Lines.{pair_value}
use Rattle.tv_core.specs.Normal.{normal, IsNormal, AreNormal}
use Rattle.tv_core.specs.declared.field.TheConstants.{P}
use Rattle.tv_core.specs.declared.lines.Pair.{Pair}
use Rattle.tv_core.specs.declared.lines.PairNum.{PairNum}
use Rattle.tv_network.specs.declared.switches.Form.{Form}
use Rattle.tv_network.specs.declared.switches.Form.TheVariants.{Bound, Open}
use Rattle.tv_word.specs.Word.{flag_of}

-- how many wires a switch makes: its bit, and four numbers or two products
abbrev pub width : Form → ℕ
width Bound = 5
width Open = 3

-- two wires that follow each other
abbrev pub wires_at : ℕ → Pair
wires_at w = record { first = wire w; second = wire (w + 1) }

-- a new wire that is with the wire p the sum of x and y, which may share wires
unfoldable pub remainder_of : Combination → Combination → ℕ → Circuit ℕ
remainder_of x y p = do
  q ← fresh
  _ ← put (normal (x ++ y)) (constant 1) (wire p ++ wire q)
  pure q

-- a new wire that is the product of the wire b and x less y, which may share wires
unfoldable pub product_of : ℕ → Combination → Combination → Circuit ℕ
product_of b x y = do
  m ← fresh
  _ ← put (wire b) (normal (less x y)) (wire m)
  pure m

-- a bit, two numbers that it chooses, and the two others, by the sums of both; or its products with the two differences
-- of the items
unfoldable pub switch_of : Form → Pair → Pair → Circuit (Unit {0})
switch_of Bound x y = do
  b ← fresh
  _ ← bit_of b
  p ← select_of b y.first x.first
  p' ← select_of b y.second x.second
  _ ← remainder_of x.first y.first p
  _ ← remainder_of x.second y.second p'
  pure tt
switch_of Open x y = do
  b ← fresh
  _ ← bit_of b
  _ ← product_of b x.first y.first
  _ ← product_of b x.second y.second
  pure tt

-- what a switch whose wires begin at w passes on to its lower slot (`low` is true), where x stood, or to its upper one:
-- two wires; or x less the products, or with them
abbrev pub passed_to : Form → Bool → ℕ → Pair → Pair
passed_to Bound true w x = wires_at (w + 1)
passed_to Bound false w x = wires_at (w + 3)
passed_to Open true w x = record { first = less x.first (wire (w + 1)); second = less x.second (wire (w + 2)) }
passed_to Open false w x = record { first = x.first ++ wire (w + 1); second = x.second ++ wire (w + 2) }

-- ---- the values
-- what stands after a switch where x stood, y being the other item
abbrev pub passed : {X : Type 0} → Bool → X → X → X
passed b x y = if b then y else x

-- the product of a bit and a difference
abbrev pub product : Bool → ℕ → ℕ → ℕ
product b x y = if b then (x + (P - y)) % P else 0

-- the values of a switch's wires
abbrev pub switch_values : Form → Bool → PairNum → PairNum → List ℕ
switch_values Bound b x y = flag_of b ∷ (passed b x y).first ∷ (passed b x y).second ∷ (passed b y x).first ∷ (passed b y x).second ∷ []
switch_values Open b x y = flag_of b ∷ product b x.first y.first ∷ product b x.second y.second ∷ []

-- ---- bounds
-- two combinations of at most n terms over wires below `wires`
pub record IsPairMade (n : ℕ) (pair : Pair) (wires : ℕ) : Type 0 where
  pub first : top pair.first ≤ wires
  pub second : top pair.second ≤ wires
  pub first_short : length pair.first ≤ n
  pub second_short : length pair.second ≤ n

-- the items at slots below count are combinations of at most n terms over wires below `wires`
abbrev pub ArePairsMade : ℕ → (ℕ → Pair) → ℕ → ℕ → Type 0
ArePairsMade n pair count wires = (x : ℕ) → x < count → IsPairMade n (pair x) wires

-- a pair of normal combinations over wires below `wires`
pub record IsNormalPair (pair : Pair) (wires : ℕ) : Type 0 where
  pub first : IsNormal pair.first
  pub second : IsNormal pair.second
  pub first_below : top pair.first ≤ wires
  pub second_below : top pair.second ≤ wires

-- ---- the laws
-- whether the bit at a wire is 1
abbrev pub bit_at : List ℕ → ℕ → Bool
bit_at z w = slice_index z w == 1

-- what an assignment that satisfies a switch's constraints has: 0 or 1 at the bit, and at both slots what it passes
pub record IsSwitch (z : List ℕ) (form : Form) (x y : Pair) (w : ℕ) : Type 0 where
  pub bit : IsBit (slice_index z w)
  pub lower : pair_value z (passed_to form true w x) ≡ passed (bit_at z w) (pair_value z x) (pair_value z y)
  pub upper : pair_value z (passed_to form false w y) ≡ passed (bit_at z w) (pair_value z y) (pair_value z x)

abbrev pub SwitchIsSound : Type 0
SwitchIsSound = (z : List ℕ) (form : Form) (x y : Pair) (next : ℕ) → Assigns z → Meets z (switch_of form x y next).list → IsSwitch z form x y next

-- an assignment that has its values for a bit satisfies its constraints, and has the bit
abbrev pub SwitchIsComplete : Type 0
SwitchIsComplete = (z : List ℕ) (form : Form) (x y : Pair) (next : ℕ) (b : Bool) → Assigns z
    → HasFrom z next (switch_values form b (pair_value z x) (pair_value z y))
    → Meets z (switch_of form x y next).list × (slice_index z next ≡ flag_of b)

-- over normal items of wires before its own it emits normal combinations alone, and what it passes on is normal
pub record SwitchIsNormal : Type 0 where
  pub puts : (form : Form) (x y : Pair) (next : ℕ) → IsNormalPair x next → IsNormalPair y next → AreNormal (switch_of form x y next).list
  pub passes : (form : Form) (low : Bool) (x : Pair) (w : ℕ) → IsNormalPair x w → IsNormalPair (passed_to form low w x) (w + width form)

-- one value for each wire, a number of the field where its items are; and what it passes on has one term more at most
pub record SwitchSizes : Type 0 where
  pub end : (form : Form) (x y : Pair) (next : ℕ) → (switch_of form x y next).next ≡ next + width form
  pub values : (form : Form) (b : Bool) (x y : PairNum) → length (switch_values form b x y) ≡ width form
  pub fills : (form : Form) (x y : Pair) (b : Bool) (v w : PairNum) → Fills (switch_of form x y) (switch_values form b v w)
  pub in_field : (form : Form) (b : Bool) (x y : PairNum) → (x.first < P) × (x.second < P) → (y.first < P) × (y.second < P) → InField (switch_values form b x y)
  pub count : (form : Form) (x y : Pair) (next : ℕ) → length (switch_of form x y next).list ≡ width form
  pub passes : (form : Form) (low : Bool) (n : ℕ) (x : Pair) (w : ℕ) → IsPairMade n x w → IsPairMade (n + 1) (passed_to form low w x) (w + width form)
