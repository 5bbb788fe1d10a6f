-- What a system needs of a memory argument, whichever it is: constraints that make a list of lines honest. The laws of
-- a system cite these two definitions alone.
use Rattle.std.specs.Prelude.{◌≡◌, ℕ, ◌+◌, ◌^◌, ◌≤◌, List, length, map}
use Rattle.tv_core.specs.Circuits.{Circuit}
use Rattle.tv_core.specs.Laws.{Assigns, Meets, HasFrom, InField}
use Rattle.tv_core.specs.Lines.{Line, Honest}
use Rattle.tv_core.specs.declared.lines.LineLc.{LineLc}
use Rattle.tv_lines.specs.PackedLines.{line_value}
use Rattle.tv_lines.specs.Placed.{LinesFrom}
use Rattle.tv_argument.specs.Checks.{Checks, AreOfKinds, AreNear}

-- the constraints for a list of lines, by how they are checked
abbrev pub Argument : Type 0
Argument = Checks → List LineLc → Circuit (Unit {0})

-- lines at the times 0, 1, 2, .. that are of their kinds are honest in every assignment that satisfies the constraints
abbrev pub ArgumentIsSound : Argument → Type 0
ArgumentIsSound argument = (z : List ℕ) (checks : Checks) (lines : List LineLc) (next : ℕ) → length lines ≤ 2 ^ 20
    → LinesFrom 0 (map (line_value z) lines) → AreOfKinds checks (map (line_value z) lines)
    → Assigns z → Meets z (argument checks lines next).list → Honest (map (line_value z) lines)

-- for honest lines that are of their kinds and near their predecessors, the argument's values: one for each wire that
-- it makes, each below P; an assignment that has them satisfies the constraints
pub record ArgumentIsComplete (argument : Argument) (values : Checks → List Line → List ℕ) (made : Checks → ℕ → ℕ) : Type 0 where
  pub next : (checks : Checks) (lines : List LineLc) (at : ℕ) → (argument checks lines at).next ≡ at + made checks (length lines)
  pub many : (checks : Checks) (lines : List Line) → length (values checks lines) ≡ made checks (length lines)
  pub below : (checks : Checks) (lines : List Line) → length lines ≤ 2 ^ 20 → LinesFrom 0 lines → InField (values checks lines)
  pub met : (z : List ℕ) (checks : Checks) (lines : List LineLc) (at : ℕ) → length lines ≤ 2 ^ 20
      → LinesFrom 0 (map (line_value z) lines) → AreOfKinds checks (map (line_value z) lines) → AreNear checks (map (line_value z) lines)
      → Honest (map (line_value z) lines) → Assigns z
      → HasFrom z at (values checks (map (line_value z) lines)) → Meets z (argument checks lines at).list
