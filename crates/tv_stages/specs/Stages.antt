-- A permutation network of L items at slots 0, 1, .. L - 1, and what goes through it. Its stages have numbers 0, 1, ..
-- 2 k - 2, k being the number of bits of L - 1. A switch of a stage is at two slots that differ in the stage's bit alone.
-- Bit 0 of a switch passes its two items, 1 exchanges them. A slot at no switch passes its item.
use Rattle.std.specs.Prelude.{◌≡◌, ℕ, zero, suc, ◌+◌, ◌-◌, ◌*◌, ◌/◌, ◌%◌, ◌^◌, ◌<◌, ◌==◌, nat_lt, Bool}
use Rattle.std.specs.Prelude.{false, not, ◌&&◌, if◌then◌else◌, List, map, get_or, Option, Some, None}
use Rattle.std.specs.List.{range_with_len}
use Rattle.tv_stages.specs.declared.nets.Net.{Net}
use Rattle.tv_stages.specs.declared.nets.Net.TheVariants.{Benes, Waksman}

-- ---- bits of a slot
-- i with a 0 put in at bit d, and x without bit d
unfoldable pub insert_bit : ℕ → ℕ → ℕ
insert_bit d i = i / 2 ^ d * (2 * 2 ^ d) + i % 2 ^ d

unfoldable pub remove_bit : ℕ → ℕ → ℕ
remove_bit d x = x / 2 ^ d / 2 * 2 ^ d + x % 2 ^ d

-- whether bit d is 0; the slot that differs in bit d alone; the lower one of these two
unfoldable pub is_low : ℕ → ℕ → Bool
is_low d x = x / 2 ^ d % 2 == 0

unfoldable pub flip : ℕ → ℕ → ℕ
flip d x = if is_low d x then x + 2 ^ d else x - 2 ^ d

unfoldable pub low : ℕ → ℕ → ℕ
low d x = if is_low d x then x else x - 2 ^ d

-- how many slots x with bit d = 0 there are for which x + 2 ^ d < L
unfoldable pub pairs : ℕ → ℕ → ℕ
pairs L d = 2 ^ d * (L / (2 * 2 ^ d)) + (L % (2 * 2 ^ d) - 2 ^ d)

-- ---- stages
-- the least k for which L is no more than 2 ^ k, in at most `fuel` steps
abbrev pub height_within : ℕ → ℕ → ℕ
height_within zero L = 0
height_within (suc fuel) L = if nat_lt 1 L then suc (height_within fuel (L - L / 2)) else 0

unfoldable pub height : ℕ → ℕ
height L = height_within L L

unfoldable pub stage_count : ℕ → ℕ
stage_count L = 2 * height L - 1

-- the bit of stage l: the slots of its switches are a stride of 2 ^ depth apart
unfoldable pub depth : ℕ → ℕ → ℕ
depth L l = if nat_lt l (height L) then l else 2 * height L - 2 - l

-- ---- switches: number i of stage l is at slot `insert_bit (depth L l) i` and the one a stride above
-- of stage k, where a residue has two to four slots: as many as have three or four, since two were exchanged in stage
-- k - 2 already
unfoldable pub middle_count : ℕ → ℕ
middle_count L = L - 2 ^ (height L - 1)

-- how many numbers there are, the switches of Benes' network: all pairs of slots, but in stage k
unfoldable pub number_count : ℕ → ℕ → ℕ
number_count L l = if l == height L then middle_count L else pairs L (depth L l)

-- Waksman's network leaves out, in each stage from k on, the first switch of each residue modulo the stride that an even
-- number of slots has. These follow each other: the first number that is left out, if any is, and how many are
unfoldable pub gap_start : ℕ → ℕ → ℕ
gap_start L l = let stride = 2 ^ depth L l in if L / stride % 2 == 0 then L % stride else 0

unfoldable pub gap_size : Net → ℕ → ℕ → ℕ
gap_size Benes L l = 0
gap_size Waksman L l =
    let stride = 2 ^ depth L l in
    if nat_lt l (height L) then 0
    else if L / stride == 2 then 0
    else if L / stride % 2 == 0 then stride - L % stride else L % stride

-- how many switches stage l has
unfoldable pub switch_count : Net → ℕ → ℕ → ℕ
switch_count net L l = number_count L l - gap_size net L l

-- the switches of a stage in order: the position of switch i among those that there are, and the number of the switch at
-- a position
unfoldable pub position : Net → ℕ → ℕ → ℕ → ℕ
position net L l i = if nat_lt i (gap_start L l) then i else i - gap_size net L l

unfoldable pub number : Net → ℕ → ℕ → ℕ → ℕ
number net L l at = if nat_lt at (gap_start L l) then at else at + gap_size net L l

-- the lower slot of the switch at a position
abbrev pub switch_slot : Net → ℕ → ℕ → ℕ → ℕ
switch_slot net L l at = insert_bit (depth L l) (number net L l at)

-- whether there is no switch i in stage l
unfoldable pub is_left_out : Net → ℕ → ℕ → ℕ → Bool
is_left_out net L l i = not (nat_lt i (gap_start L l)) && nat_lt i (gap_start L l + gap_size net L l)

-- whether slot x is at a switch of stage l; that switch has number `remove_bit (depth L l) x`
unfoldable pub is_switched : Net → ℕ → ℕ → ℕ → Bool
is_switched net L l x =
    let d = depth L l in
    (nat_lt (low d x + 2 ^ d) L && nat_lt (remove_bit d x) (number_count L l)) && not (is_left_out net L l (remove_bit d x))

-- the position of the switch at slot x, if there is one
abbrev pub switch_at : Net → ℕ → ℕ → ℕ → Option ℕ
switch_at net L l x = if is_switched net L l x then Some (position net L l (remove_bit (depth L l) x)) else None

-- ---- what goes through; `bit l i` is the bit of switch i of stage l
-- whether stage l exchanges what stands at slot x
unfoldable pub is_exchanged : Net → ℕ → (ℕ → ℕ → Bool) → ℕ → ℕ → Bool
is_exchanged net L bit l x = is_switched net L l x && bit l (remove_bit (depth L l) x)

module _ {X : Type 0} where
  -- what stands at slot x after stage l, where `item` stood before it
  unfoldable pub stage : Net → ℕ → (ℕ → ℕ → Bool) → ℕ → (ℕ → X) → ℕ → X
  stage net L bit l item x = if is_exchanged net L bit l x then item (flip (depth L l) x) else item x

  -- after the first n stages
  unfoldable pub through_first : Net → ℕ → (ℕ → ℕ → Bool) → ℕ → (ℕ → X) → ℕ → X
  through_first net L bit zero item = item
  through_first net L bit (suc n) item = stage net L bit n (through_first net L bit n item)

  -- output x of the network
  unfoldable pub through_stages : Net → ℕ → (ℕ → ℕ → Bool) → (ℕ → X) → ℕ → X
  through_stages net L bit item = through_first net L bit (stage_count L) item

-- the slot whose item comes out at slot x
abbrev pub source : Net → ℕ → (ℕ → ℕ → Bool) → ℕ → ℕ
source net L bit x = through_stages net L bit (λ j. j) x

-- ---- the bits as one list: stage after stage, in order of position
-- the place of the first bit of stage l
unfoldable pub first_switch : Net → ℕ → ℕ → ℕ
first_switch net L zero = 0
first_switch net L (suc l) = first_switch net L l + switch_count net L l

-- how many switches a network has
abbrev pub switches : Net → ℕ → ℕ
switches net L = first_switch net L (stage_count L)

-- the place of the bit of switch i of stage l
abbrev pub bit_place : Net → ℕ → ℕ → ℕ → ℕ
bit_place net L l i = first_switch net L l + position net L l i

-- a list's bit of switch i of stage l
abbrev pub bit_in : Net → ℕ → List Bool → ℕ → ℕ → Bool
bit_in net L bits l i = get_or bits (bit_place net L l i) false

-- ---- lists and permutations
-- f 0, f 1, .. f (n - 1)
unfoldable pub places : {X : Type 0} → ℕ → (ℕ → X) → List X
places n f = map f (range_with_len 0 n)

-- p has each number below m once: p is a permutation of them, and `back` says where each stands
pub record IsReordering (m : ℕ) (p : ℕ → ℕ) : Type 0 where
  pub below : (i : ℕ) → i < m → p i < m
  pub back : ℕ → ℕ
  pub back_below : (x : ℕ) → x < m → back x < m
  pub there : (x : ℕ) → x < m → p (back x) ≡ x
  pub once : (i j : ℕ) → i < m → j < m → p i ≡ p j → i ≡ j
