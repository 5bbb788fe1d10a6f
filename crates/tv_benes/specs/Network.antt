-- A permutation network as constraints.
use Rattle.std.specs.Prelude.{◌≡◌, ℕ, zero, suc, ◌+◌, ◌-◌, ◌*◌, ◌^◌, ◌<◌, ◌==◌, Bool, List, [], ◌∷◌, ◌++◌, slice_index}
use Rattle.tv_benes.specs.Places.{row, output, column_outputs, last_outputs, last_pair, IsNormalPair, AreBelow}
use Rattle.tv_benes.specs.Through.{switches, missing, from, passed, to_upper, to_lower, through, last_item}
use Rattle.tv_benes.specs.declared.places.Ends.{Ends}
use Rattle.tv_benes.specs.declared.shape.Net.{Net}
use Rattle.tv_bits.specs.Bit.{IsBit, bit_of}
use Rattle.tv_bits.specs.Select.{select_of}
use Rattle.tv_core.specs.Circuits.{Circuit, here, fresh, put, pure, ◌>>=◌}
use Rattle.tv_core.specs.Combinations.{wire, constant}
use Rattle.tv_core.specs.Constraints.{Combination}
use Rattle.tv_core.specs.Laws.{Assigns, Meets, HasFrom, Fills, InField}
use Rattle.tv_core.specs.Lines.{pair_value}
use Rattle.tv_core.specs.Loops.{sequence}
use Rattle.tv_core.specs.Normal.{normal, AreNormal}
use Rattle.tv_core.specs.declared.field.TheConstants.{P}
use Rattle.tv_core.specs.declared.lines.Pair.{Pair}
use Rattle.tv_core.specs.declared.lines.PairNum.{PairNum}
use Rattle.tv_word.specs.Word.{flag_of}

-- a new wire that is with the wire p the sum of x and y. These may share wires, so their sum is made normal
unfoldable pub remainder_of : Combination → Combination → ℕ → Circuit ℕ
remainder_of x y p = do
  q ← fresh
  _ ← put (normal (x ++ y)) (constant 1) (wire p ++ wire q)
  pure q

-- a switch: a bit, two numbers that it chooses, and the two others, by the sums of both
unfoldable pub switch_of : Pair → Pair → Circuit (Unit {0})
switch_of x y = do
  b ← fresh
  _ ← bit_of b
  p ← select_of b y.first x.first
  p' ← select_of b y.second x.second
  _ ← remainder_of x.first y.first p
  _ ← remainder_of x.second y.second p'
  pure tt

-- n switches, of which number j takes items 2 j and 2 j + 1
unfoldable pub column_of : ℕ → (ℕ → Pair) → Circuit (Unit {0})
column_of n item = sequence n (λ j. switch_of (item (2 * j)) (item (2 * j + 1)))

-- the last column of a network of level h, over the outputs of two networks; it returns its outputs
unfoldable pub last_column_of : Net → ℕ → Ends → Ends → Circuit Ends
last_column_of net h upper lower = do
  g ← here
  _ ← column_of (2 ^ h - missing net) (last_pair net upper lower)
  pure (last_outputs net g upper lower)

-- a network of level h on items; it returns its outputs
unfoldable pub network_of : Net → ℕ → (ℕ → Pair) → Circuit Ends
network_of net zero item = do
  f ← here
  _ ← column_of 1 item
  pure (column_outputs f)
network_of net (suc h) item = do
  f ← here
  _ ← column_of (2 ^ suc h) item
  upper ← network_of net h (row (f + 1))
  lower ← network_of net h (row (f + 3))
  last_column_of net (suc h) upper lower

-- ---- the values
-- the values of a switch's wires
abbrev pub switch_values : Bool → PairNum → PairNum → List ℕ
switch_values b x y = flag_of b ∷ (passed b x y).first ∷ (passed b x y).second ∷ (passed b y x).first ∷ (passed b y x).second ∷ []

-- of n switches, of which number j has the bit j and takes items 2 j and 2 j + 1
unfoldable pub column_values : ℕ → (ℕ → Bool) → (ℕ → PairNum) → List ℕ
column_values zero bit item = []
column_values (suc n) bit item = column_values n bit item ++ switch_values (bit n) (item (2 * n)) (item (2 * n + 1))

-- of the last column of a network of level h + 1
abbrev pub last_column_values : Net → ℕ → (ℕ → Bool) → (ℕ → PairNum) → List ℕ
last_column_values net h bit item = column_values (2 ^ suc h - missing net) (from (2 ^ suc h + 2 * switches net h) bit) (last_item net h bit item)

-- of a network of level h
unfoldable pub network_values : Net → ℕ → (ℕ → Bool) → (ℕ → PairNum) → List ℕ
network_values net zero bit item = column_values 1 bit item
network_values net (suc h) bit item =
    let n = 2 ^ suc h in
    let s = switches net h in
    column_values n bit item
    ++ (network_values net h (from n bit) (to_upper bit item)
    ++ (network_values net h (from (n + s) bit) (to_lower bit item)
    ++ last_column_values net h bit item))

-- ---- the laws
-- the bit of switch j of a network whose wires begin at `first`
abbrev pub bit_in : List ℕ → ℕ → ℕ → Bool
bit_in z first j = slice_index z (first + 5 * j) == 1

-- what an assignment that satisfies the constraints has: 0 or 1 at each switch, and at the outputs what goes through
pub record IsNetwork (z : List ℕ) (net : Net) (h first : ℕ) (item : ℕ → Pair) (last : Ends) : Type 0 where
  pub bits : (j : ℕ) → j < switches net h → IsBit (slice_index z (first + 5 * j))
  pub outputs : (i : ℕ) → i < 2 ^ suc h → pair_value z (output last i) ≡ through net h (bit_in z first) (λ j. pair_value z (item j)) i

abbrev pub NetworkIsSound : Type 0
NetworkIsSound = (z : List ℕ) (net : Net) (next h : ℕ) (item : ℕ → Pair) → Assigns z → Meets z (network_of net h item next).list
    → IsNetwork z net h next item (network_of net h item next).answer

-- numbers that are the values of a network's items
abbrev pub AreValues : List ℕ → ℕ → (ℕ → Pair) → (ℕ → PairNum) → Type 0
AreValues z h item v = (j : ℕ) → j < 2 ^ suc h → pair_value z (item j) ≡ v j

-- what a network's values are computed from: the bits of its switches, and the numbers of its items
pub record Setting : Type 0 where
  pub bit : ℕ → Bool
  pub number : ℕ → PairNum

-- what an assignment that has the values for these has: it satisfies the constraints, it has these bits at the
-- switches, in order, and at the outputs what goes through by these bits of these numbers
pub record IsFilled (z : List ℕ) (net : Net) (h first : ℕ) (item : ℕ → Pair) (by : Setting) : Type 0 where
  pub meets : Meets z (network_of net h item first).list
  pub bits : (j : ℕ) → j < switches net h → slice_index z (first + 5 * j) ≡ flag_of (by.bit j)
  pub outputs : (i : ℕ) → i < 2 ^ suc h → pair_value z (output (network_of net h item first).answer i) ≡ through net h by.bit by.number i

abbrev pub NetworkIsComplete : Type 0
NetworkIsComplete = (z : List ℕ) (net : Net) (next h : ℕ) (item : ℕ → Pair) (bit : ℕ → Bool) (v : ℕ → PairNum) → Assigns z
    → AreValues z h item v → HasFrom z next (network_values net h bit v) → IsFilled z net h next item (record { bit = bit; number = v })

-- over normal items of wires before the first, every combination that is emitted is normal
abbrev pub NetworkIsNormal : Type 0
NetworkIsNormal = (net : Net) (h next : ℕ) (item : ℕ → Pair) → ((i : ℕ) → i < 2 ^ suc h → IsNormalPair (item i) next)
    → AreNormal (network_of net h item next).list

-- the sizes of a network: it makes five wires a switch, with one value each; its outputs are among them; and over items
-- in the field all values are in the field
pub record NetworkFills : Type 0 where
  pub fills : (net : Net) (h : ℕ) (item : ℕ → Pair) (bit : ℕ → Bool) (v : ℕ → PairNum) → Fills (network_of net h item) (network_values net h bit v)
  pub ends : (net : Net) (h next : ℕ) (item : ℕ → Pair) → (network_of net h item next).next ≡ next + 5 * switches net h
  pub below : (net : Net) (h next : ℕ) (item : ℕ → Pair) → AreBelow (network_of net h item next).answer (2 ^ suc h) (next + 5 * switches net h)
  pub small : (net : Net) (h : ℕ) (bit : ℕ → Bool) (v : ℕ → PairNum) → ((j : ℕ) → j < 2 ^ suc h → ((v j).first < P) × ((v j).second < P))
      → InField (network_values net h bit v)
