-- What the rows of a pass keep to.
use Rattle.std.specs.Prelude.{◌≡◌, ℕ, ◌^◌, ◌<◌, ◌≤◌, Bool, false, true, ◌||◌, List, length, Option, None, Some, slice_index_or}
use Rattle.std.specs.List.{AllByRecursion, filter_map}
use Rattle.tv_core.specs.Constraints.{Constraint}
use Rattle.tv_core.specs.Meanings.{terms_in}
use Rattle.tv_core.specs.Normal.{IsNormalConstraint}
use Rattle.tv_shrink.specs.Pass.{Pass}
use Rattle.tv_shrink.specs.Substitution.{has_wire}

-- how many terms the constraints have that were not dropped
abbrev pub rows_terms : List (Option Constraint) → ℕ
rows_terms rows = terms_in (filter_map (λ row. row) rows)

-- each combination of a constraint has at most 128 terms, whose wires are below a number
pub record IsWithin (wires : ℕ) (row : Constraint) : Type 0 where
  pub a : AllByRecursion (λ t. t.1 < wires) row.a
  pub b : AllByRecursion (λ t. t.1 < wires) row.b
  pub c : AllByRecursion (λ t. t.1 < wires) row.c
  pub short_a : length row.a ≤ 128
  pub short_b : length row.b ≤ 128
  pub short_c : length row.c ≤ 128

-- each wire of a constraint that was not dropped is
abbrev pub RowIsWithin : ℕ → Option Constraint → Type 0
RowIsWithin wires None = Unit {0}
RowIsWithin wires (Some row) = IsWithin wires row

abbrev pub AreWithin : ℕ → List (Option Constraint) → Type 0
AreWithin wires rows = AllByRecursion (RowIsWithin wires) rows

-- a constraint that was dropped, or is one of normal combinations
abbrev pub RowIsNormal : Option Constraint → Type 0
RowIsNormal None = Unit {0}
RowIsNormal (Some row) = IsNormalConstraint row

-- each constraint that was not dropped is one of normal combinations
abbrev pub RowsAreNormal : List (Option Constraint) → Type 0
RowsAreNormal rows = AllByRecursion RowIsNormal rows

-- whether a wire stands in the constraint at a place
abbrev pub row_has : ℕ → Option Constraint → Bool
row_has w None = false
row_has w (Some c) = has_wire w c.a || (has_wire w c.b || has_wire w c.c)

-- the state of a pass, from its parts
abbrev pub pass_of : List (Option Constraint) → List ℕ → Pass
pass_of rows gone = record { rows = rows; gone = gone }

-- a pass and the number of its first private wire
pub record State : Type 0 where
  pub publics : ℕ
  pub pass : Pass

-- it is known of each private wire in which constraints it may stand
abbrev pub Covers : ℕ → List (Option Constraint) → (ℕ → ℕ → Bool) → Type 0
Covers publics rows may = (i w : ℕ) → publics ≤ w → row_has w (slice_index_or rows i None) ≡ true → may w i ≡ true

-- the constraints are normal, fewer than 2 ^ 32, and for each private wire it is known where it may stand
pub record IsKept (publics : ℕ) (rows : List (Option Constraint)) (may : ℕ → ℕ → Bool) : Type 0 where
  pub normal : RowsAreNormal rows
  pub covers : Covers publics rows may
  pub few : length rows < 2 ^ 32
