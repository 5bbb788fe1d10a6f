-- What goes through a permutation network, whatever its items are. A network of level h has 2 ^ (h + 1) items; where
-- h is not 0, it is a column of switches, two networks of the level below, and a column of switches. Each switch has
-- a bit: 0 passes its two items, 1 exchanges them.
use Rattle.std.specs.Prelude.{◌≡◌, ℕ, zero, suc, ◌+◌, ◌-◌, ◌*◌, ◌/◌, ◌%◌, ◌^◌, ◌==◌, Bool, false, if◌then◌else◌, List, map, IsPermutation}
use Rattle.std.specs.List.{range_with_len}
use Rattle.tv_benes.specs.declared.shape.Net.{Net}
use Rattle.tv_benes.specs.declared.shape.Net.TheVariants.{Benes, Waksman}
use Rattle.tv_core.specs.declared.lines.PairNum.{PairNum}

-- how many switches a network has: for k = h + 1, (2 k - 1) 2 ^ (k - 1) by Benes, and 2 ^ k (k - 1) + 1 by Waksman
abbrev pub switches : Net → ℕ → ℕ
switches Benes h = (2 * h + 1) * 2 ^ h
switches Waksman h = h * (2 * 2 ^ h) + 1

-- how many switches a last column lacks: Waksman leaves out its switch 0, whose two items pass
abbrev pub missing : Net → ℕ
missing Benes = 0
missing Waksman = 1

-- the bit of switch j of a last column, where `bit` has those of the switches that there are
abbrev pub last_bit : Net → (ℕ → Bool) → ℕ → Bool
last_bit Benes bit j = bit j
last_bit Waksman bit j = if j == 0 then false else bit (j - 1)

-- the bits from place n on
abbrev pub from : ℕ → (ℕ → Bool) → ℕ → Bool
from n bit j = bit (n + j)

module _ {X : Type 0} where
  -- a switch's first output, its first input being x and its second y; its second output is `passed b y x`
  abbrev pub passed : Bool → X → X → X
  passed b x y = if b then y else x

  -- item j of the upper and of the lower network: switch j of the first column takes items 2 j and 2 j + 1
  abbrev pub to_upper : (ℕ → Bool) → (ℕ → X) → ℕ → X
  to_upper bit item j = passed (bit j) (item (2 * j)) (item (2 * j + 1))

  abbrev pub to_lower : (ℕ → Bool) → (ℕ → X) → ℕ → X
  to_lower bit item j = passed (bit j) (item (2 * j + 1)) (item (2 * j))

  -- what stands at place i where the first of a row stand at the even places and the second at the odd ones
  abbrev pub alternating : (ℕ → X) → (ℕ → X) → ℕ → X
  alternating first second i = if i % 2 == 0 then first (i / 2) else second (i / 2)

  -- output i of the last column: switch j takes output j of the upper and of the lower network
  abbrev pub joined : (ℕ → Bool) → (ℕ → X) → (ℕ → X) → ℕ → X
  joined bit upper lower = alternating (λ j. passed (bit j) (upper j) (lower j)) (λ j. passed (bit j) (lower j) (upper j))

  -- output i of a network; its switches are numbered from the first column through the upper network and the lower
  -- one to the last column
  unfoldable pub through : Net → ℕ → (ℕ → Bool) → (ℕ → X) → ℕ → X
  through net zero bit item = joined bit (λ j. item (2 * j)) (λ j. item (2 * j + 1))
  through net (suc h) bit item =
      let n = 2 ^ suc h in
      let s = switches net h in
      joined (last_bit net (from (n + 2 * s) bit)) (through net h (from n bit) (to_upper bit item)) (through net h (from (n + s) bit) (to_lower bit item))

-- item i of the last column of a network of level h + 1: outputs of the two networks before it, in turn, but for what
-- passes
abbrev pub last_item : {X : Type 0} → Net → ℕ → (ℕ → Bool) → (ℕ → X) → ℕ → X
last_item net h bit item i =
    let n = 2 ^ suc h in
    alternating (through net h (from n bit) (to_upper bit item)) (through net h (from (n + switches net h) bit) (to_lower bit item)) (i + 2 * missing net)

-- f 0, f 1, .. f (n - 1)
unfoldable pub places : {X : Type 0} → ℕ → (ℕ → X) → List X
places n f = map f (range_with_len 0 n)

-- ---- the laws
-- the outputs are the items in another order, whatever the bits: of numbers, and of pairs of numbers
abbrev pub NumbersArePermuted : Type 0
NumbersArePermuted = (net : Net) (h : ℕ) (bit : ℕ → Bool) (item : ℕ → ℕ) → IsPermutation (places (2 ^ suc h) item) (places (2 ^ suc h) (through net h bit item))

abbrev pub PairsArePermuted : Type 0
PairsArePermuted = (net : Net) (h : ℕ) (bit : ℕ → Bool) (item : ℕ → PairNum)
    → IsPermutation (places (2 ^ suc h) item) (places (2 ^ suc h) (through net h bit item))

-- which item comes out where does not depend on the items: output i is the item at the place that comes out there
abbrev pub PlacesDetermineOutputs : Type 0
PlacesDetermineOutputs = (net : Net) (h : ℕ) (bit : ℕ → Bool) (item : ℕ → PairNum) (i : ℕ) → through net h bit item i ≡ item (through net h bit (λ j. j) i)
