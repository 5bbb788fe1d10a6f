-- One pass over the constraints of a system, in which wires are replaced.
use Rattle.std.specs.Prelude.{ℕ, ◌+◌, Bool, true, List, [], ◌∷◌, ◌++◌, map, length, Option, None, Some, slice_index_or, slice_set, if◌then◌else◌}
use Rattle.std.specs.List.{fold, list_all, range_with_len}
use Rattle.std.specs.Option.{option_map}
use Rattle.tv_core.specs.Constraints.{Combination, Constraint, System}
use Rattle.tv_core.specs.Normal.{normal_constraint}
use Rattle.tv_shrink.specs.Substitution.{linear_form, greatest_from, solved, replaced_in, fits_in}

-- how far the pass has come: at each constraint's place what it is by now, or nothing where it was dropped,
-- and the wires that are gone, another combination standing in the place of each
pub record Pass : Type 0 where
  pub rows : List (Option Constraint)
  pub gone : List ℕ

-- the constraints made normal, none dropped
unfoldable pub begun : System → Pass
begun system = record { rows = map (λ c. Some (normal_constraint c)) system.constraints; gone = [] }

-- without the constraint at a place
unfoldable pub dropped : ℕ → Pass → Pass
dropped i pass = record { rows = slice_set pass.rows i None; gone = pass.gone }

-- a wire replaced in each constraint
abbrev pub all_replaced : ℕ → Combination → List (Option Constraint) → List (Option Constraint)
all_replaced w r rows = map (option_map (replaced_in w r)) rows

-- a wire replaced in all constraints
unfoldable pub substituted : ℕ → Combination → Pass → Pass
substituted w r pass = record { rows = all_replaced w r pass.rows; gone = pass.gone ++ w ∷ [] }

-- the constraint at a place, where it was not dropped, keeps to 128 terms
abbrev pub row_fits : ℕ → Combination → Option Constraint → Bool
row_fits w r None = true
row_fits w r (Some c) = fits_in w r c

-- a wire replaced in all constraints, if they keep to 128 terms; else the pass as it was
unfoldable pub attempted : ℕ → Combination → Pass → Pass → Pass
attempted w r others pass = if list_all (row_fits w r) others.rows then substituted w r others else pass

-- the constraint at a place says that x is 0: its greatest private wire goes, if there is one
unfoldable pub eliminated : ℕ → Combination → Option ℕ → Pass → Pass
eliminated i x None pass = pass
eliminated i x (Some w) pass = attempted w (solved w x) (dropped i pass) pass

-- the constraint at a place says that x is 0, or is not linear
unfoldable pub treated : ℕ → ℕ → Option Combination → Pass → Pass
treated publics i None pass = pass
treated publics i (Some []) pass = dropped i pass
treated publics i (Some (t ∷ x)) pass = eliminated i (t ∷ x) (greatest_from publics (t ∷ x)) pass

-- what a constraint that was not dropped says is 0
abbrev pub linear_row : Option Constraint → Option Combination
linear_row None = None
linear_row (Some c) = linear_form c

-- the turn of the constraint at a place
unfoldable pub turn : ℕ → Pass → ℕ → Pass
turn publics pass i = treated publics i (linear_row (slice_index_or pass.rows i None)) pass

-- the pass, each constraint having its turn
unfoldable pub passed : System → Pass
passed system = fold (turn (1 + system.outputs + system.inputs)) (begun system) (range_with_len 0 (length system.constraints))
