-- Wires that get lower numbers, where others are gone.
use Rattle.std.specs.Prelude.{ℕ, List, map, length, Option}
use Rattle.std.specs.Option.{option_map}
use Rattle.tv_core.specs.Constraints.{Combination, Constraint}
use Rattle.tv_r1cs_write.specs.Bytes.{others}

-- a combination each wire of which gets as its number how many wires below it are not gone
abbrev pub moved : List ℕ → Combination → Combination
moved gone x = map (λ t. (t.0, length (others t.1 gone))) x

-- a constraint of such combinations
abbrev pub moved_in : List ℕ → Constraint → Constraint
moved_in gone c = record { a = moved gone c.a; b = moved gone c.b; c = moved gone c.c }

-- the constraints that were not dropped, each so
abbrev pub moved_rows : List ℕ → List (Option Constraint) → List (Option Constraint)
moved_rows gone rows = map (option_map (moved_in gone)) rows
