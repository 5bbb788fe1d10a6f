-- That the tapes of an extracted run are read again.
use Rattle.std.specs.Prelude.{◌≡◌, ℕ, ◌≤◌, List, ◌∷◌, Ok}
use Rattle.tv_core.specs.declared.limits.TheConstants.{STEPS, TAPE_WORDS}
use Rattle.tv_extract.specs.Runs.{IsRunOf}
use Rattle.tv_extract.specs.declared.run.Run.{Run}
use Rattle.tv_layout.specs.Places.{runs_of}
use Rattle.tv_plan.specs.declared.programs.Width.{Width}
use Rattle.tv_plan.specs.Inputs.{primary_in, aux_in}
use Rattle.tv_plan.specs.Programs.{bits}
use Rattle.tv_plan.specs.Tapes.{publics_in}
use Rattle.tv_tape.specs.Tape.{text_of}

-- `run` and `witness` read the tapes of a run as they are, and `check` its answer with the primary tape
pub record IsTaken (width : Width) (run : Run) : Type 0 where
  pub tape : primary_in 2 (bits width) (text_of run.tape) ≡ Ok run.tape
  pub aux : aux_in 3 (bits width) (text_of run.aux) ≡ Ok run.aux
  pub publics : publics_in 3 (text_of (run.answer ∷ run.tape)) ≡ Ok (run.answer ∷ run.tape)

-- and so they do with each run that an assignment has, as `extract` writes it, N and T being within their limits
abbrev pub ExtractedAreTaken : Type 0
ExtractedAreTaken =
    (width : Width) (image z : List ℕ) (n t : ℕ) (run : Run) → n ≤ TAPE_WORDS → t ≤ STEPS → IsRunOf (runs_of (bits width) image n t) z run → IsTaken width run
