-- What it means that a system is a reduction of a program's runs.
use Rattle.std.specs.Prelude.{◌≡◌, ℕ, ◌+◌, ◌<◌, List, ◌∷◌, length, take, drop}
use Rattle.tv_core.specs.Constraints.{System, Sat, Extends}
use Rattle.tv_step.specs.Machine.{Accepts}
use Rattle.tv_step.specs.Range.{AreWords}
use Rattle.tv_layout.specs.Places.{ProgramRuns}

-- some satisfying assignment extends the public numbers
pub record HasSolution (system : System) (publics : List ℕ) : Type 0 where
  pub z : List ℕ
  pub sat : Sat system z
  pub extends : Extends system z publics

-- on the tape x and on some auxiliary tape of words the machine answers v within the steps
pub record HasRun (runs : ProgramRuns) (x : List ℕ) (v : ℕ) : Type 0 where
  pub aux : List ℕ
  pub words : AreWords runs.width aux
  pub accepts : Accepts runs.width runs.image x aux runs.t v

-- the same on some auxiliary tape of fewer words than steps
pub record HasShortRun (runs : ProgramRuns) (x : List ℕ) (v : ℕ) : Type 0 where
  pub run : HasRun runs x v
  pub short : length run.aux < runs.t

-- The system has an answer and n words as its public numbers. For every word v and every tape x of n words it has a
-- solution that extends v and x exactly where there is a run on x that answers v, and so exactly where there is one on
-- fewer auxiliary words than steps; and each solution has words at its public wires.
pub record Reduces (system : System) (runs : ProgramRuns) : Type 0 where
  pub publics : system.outputs + system.inputs ≡ 1 + runs.n
  pub only : (v : ℕ) (x : List ℕ) → AreWords runs.width (v ∷ x) → length x ≡ runs.n → HasSolution system (v ∷ x) → HasShortRun runs x v
  pub where_ : (v : ℕ) (x : List ℕ) → AreWords runs.width (v ∷ x) → length x ≡ runs.n → HasRun runs x v → HasSolution system (v ∷ x)
  pub words : (z : List ℕ) → Sat system z → AreWords runs.width (take (1 + runs.n) (drop 1 z))
