-- The system that is left after a pass, its wires numbered anew.
use Rattle.std.specs.Prelude.{ℕ, ◌==◌, List, map, length, Option, slice_index}
use Rattle.std.specs.List.{filter_map, position_or_len}
use Rattle.std.specs.Option.{option_map}
use Rattle.tv_core.specs.Constraints.{Combination, Constraint, System}
use Rattle.tv_r1cs_write.specs.Bytes.{others}
use Rattle.tv_r1cs_write.specs.Shrunken.{Shrunken}
use Rattle.tv_shrink.specs.Pass.{passed}

-- the place of a wire among labels
abbrev pub place : ℕ → List ℕ → ℕ
place w labels = position_or_len (λ v. v == w) labels

-- a combination of kept wires, each by its place among the labels
unfoldable pub renumbered : List ℕ → Combination → Combination
renumbered labels x = map (λ t. (t.0, place t.1 labels)) x

-- a constraint of such combinations
abbrev pub renumbered_in : List ℕ → Constraint → Constraint
renumbered_in labels c = record { a = renumbered labels c.a; b = renumbered labels c.b; c = renumbered labels c.c }

-- what is left, with these labels
unfoldable pub left_over : System → List (Option Constraint) → List ℕ → Shrunken
left_over system rows labels = record {
  system = record {
    wires = length labels;
    outputs = system.outputs;
    inputs = system.inputs;
    constraints = filter_map (option_map (renumbered_in labels)) rows;
  };
  labels = labels;
  wires = system.wires;
}

-- the shrunk system, of the wires that are not gone
unfoldable pub shrink : System → Shrunken
shrink system = left_over system (passed system).rows (others system.wires (passed system).gone)

-- the numbers that an assignment has at these wires
abbrev pub at_wires : List ℕ → List ℕ → List ℕ
at_wires labels z = map (λ w. slice_index z w) labels
