-- Settings of a network for a permutation, by the looping method (Waksman, A permutation network, 1968). At each depth
-- the two outputs of a pair go through different slots of the stages within, and so do the two inputs of a pair. A walk
-- alternates these two pairings, from an output on, until it gets round or to an end.
use Rattle.std.specs.Prelude.{◌≡◌, ℕ, zero, suc, ◌+◌, ◌-◌, ◌^◌, ◌==◌, nat_lt, Bool, true, false, not, ◌&&◌, if◌then◌else◌}
use Rattle.std.specs.Prelude.{List, [], ◌∷◌, length, slice_index, get_or, set, replicate, Option, Some, None, is_none, unwrap_or}
use Rattle.tv_core.specs.Below.{joined_below}
use Rattle.tv_stages.specs.Laws.{AreSettings}
use Rattle.tv_stages.specs.Stages.{is_low, flip, low, height, stage_count, depth, switch_count, switch_slot, switches, bit_in, places, IsReordering}
use Rattle.tv_stages.specs.declared.nets.Net.{Net}

-- where a number stands first in a list
abbrev pub index_in : ℕ → List ℕ → ℕ
index_in i [] = 0
index_in i (x ∷ xs) = if x == i then 0 else suc (index_in i xs)

-- where each slot stands in a permutation of the slots
abbrev pub backs : List ℕ → List ℕ
backs q = places (length q) (λ x. index_in x q)

-- whether an output gets its item through the lower slots, where that is settled
abbrev pub Mark : Type 0
Mark = Option Bool

-- of output z
abbrev pub mark : List Mark → ℕ → Mark
mark marks z = get_or marks z None

-- slot n of the order in which walks begin: those where a lone slot can stand, and then all
unfoldable pub start_at : ℕ → ℕ → ℕ → ℕ
start_at L d n = if nat_lt n (2 ^ d) then L - 2 ^ d + n else n - 2 ^ d

-- ---- one depth: output x of the stages within is to be the input q x
-- a walk from output i on, of at most so many turns: i goes through the lower slots, so the input beside its own goes
-- through the upper ones, and so the output across from that one goes through the lower ones
unfoldable pub walk : ℕ → List ℕ → ℕ → ℕ → List Mark → List Mark
walk d q zero i marks = marks
walk d q (suc turns) i marks =
    let input = flip d (slice_index q i) in
    let up = set marks i (Some true) in
    let j = index_in input q in
    if is_none (mark marks i)
    then (if nat_lt input (length q) then walk d q turns (flip d j) (set up j (Some false)) else up)
    else marks

-- the marks after the walks from the first n slots of their order, each from a lower slot that is not marked
unfoldable pub walks : ℕ → List ℕ → ℕ → List Mark
walks d q zero = replicate (length q) None
walks d q (suc n) =
    let marks = walks d q n in
    let i = start_at (length q) d n in
    if is_low d i && is_none (mark marks i) then walk d q (length q) i marks else marks

-- which outputs go through the lower slots
abbrev pub marks_of : ℕ → List ℕ → List Mark
marks_of d q = walks d q (2 ^ d + length q)

-- the slot whose item a stage of depth d leaves at slot x that brings what goes through the lower slots there
unfoldable pub sorted : ℕ → (ℕ → Bool) → ℕ → ℕ
sorted d u x = if u (low d x) then x else flip d x

-- whether the marks send an output's item through the lower slots
abbrev pub is_up : List Mark → ℕ → Bool
is_up marks x = unwrap_or (mark marks x) false

-- what the stages within have to bring to slot x: the input that goes there, with bit d as the slot has it
unfoldable pub narrowed : ℕ → List ℕ → List Mark → ℕ → ℕ
narrowed d q marks x =
    let z = low d (slice_index q (sorted d (is_up marks) x)) in
    if is_low d x then z else z + 2 ^ d

-- what the stages within have to bring
abbrev pub within : ℕ → List ℕ → List ℕ
within d q = places (length q) (narrowed d q (marks_of d q))

-- ---- all depths
-- what the stages of depth d and more have to bring for p
unfoldable pub asked : List ℕ → ℕ → List ℕ
asked p zero = p
asked p (suc d) = within d (asked p d)

-- the bit of the switch of stage l whose lower slot is x, the stages of its depth having to bring q: before the middle by
-- the output that has the input there, and from the middle's other side on by the output there
unfoldable pub bit_for : ℕ → List ℕ → ℕ → Bool
bit_for l q x = not (is_up (marks_of (depth (length q) l) q) (if nat_lt l (height (length q)) then index_in x q else x))

-- the bit of that switch for the permutation p
abbrev pub setting : List ℕ → ℕ → ℕ → Bool
setting p l x = bit_for l (asked p (depth (length p) l)) x

-- the bits, stage after stage in order of position, for the permutation p: output i is to be the item at slot p i
unfoldable pub settings_of : Net → List ℕ → List Bool
settings_of net p =
    joined_below (stage_count (length p))
    (λ l. places (switch_count net (length p) l) (λ at. setting p l (switch_slot net (length p) l at)))

-- a bit for each switch; and for a permutation they bring to each slot the item that it asks for
pub record SettingsAreRight : Type 0 where
  pub long : (net : Net) (p : List ℕ) → length (settings_of net p) ≡ switches net (length p)
  pub sends : (net : Net) (p : List ℕ) → IsReordering (length p) (λ i. slice_index p i)
      → AreSettings net (length p) (λ i. slice_index p i) (bit_in net (length p) (settings_of net p))
