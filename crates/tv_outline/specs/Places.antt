-- A place in an outline: what is left of the expansion from there.
use Rattle.std.specs.Prelude.{ℕ, ◌+◌, ◌-◌, ◌<◌, List, [], ◌∷◌, ◌++◌, drop, length, map}
use Rattle.std.specs.List.{flat_map, range_with_len}
use Rattle.tv_core.specs.Constraints.{Constraint}
use Rattle.tv_outline.specs.Expansion.{constraint_in, region_of, turn_count, turn_of, values_of}
use Rattle.tv_outline.specs.declared.outline.Outline.{Outline}
use Rattle.tv_outline.specs.declared.outline.Region.{Region}
use Rattle.tv_outline.specs.declared.place.Place.{Place}

-- what is left of some regions from a row of a turn of the first on
unfoldable pub left_of : List ℕ → List Region → ℕ → ℕ → List Constraint
left_of words [] turn row = []
left_of words (region ∷ rest) turn row =
    map (constraint_in region (values_of words region turn)) (drop row region.rows.items)
    ++ (flat_map (turn_of words region) (range_with_len (turn + 1) (turn_count region.counts.items - (turn + 1)))
    ++ flat_map (region_of words) rest)

-- what is left of an outline from a place on
abbrev pub left_at : Outline → Place → List Constraint
left_at outline at = left_of outline.words.items (drop at.region outline.regions.items) at.turn at.row

-- the first of some regions has this row and this turn, or there is no region
abbrev pub IsIn : List Region → ℕ → ℕ → Type 0
IsIn [] turn row = Unit {0}
IsIn (region ∷ rest) turn row = (turn < turn_count region.counts.items) × (row < length region.rows.items)

-- a place is one of the outline's, or its end
abbrev pub IsAt : Outline → Place → Type 0
IsAt outline at = IsIn (drop at.region outline.regions.items) at.turn at.row
