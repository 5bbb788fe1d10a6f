-- A program and the two tapes of its run, which `run` and `witness` read.
use Rattle.std.specs.Prelude.{◌≡◌, ◌≤◌, ℕ, ◌^◌, List, ◌++◌, length, Result, Ok}
use Rattle.tv_core.specs.declared.limits.TheConstants.{TAPE_WORDS, AUX_WORDS}
use Rattle.tv_files.specs.Outside.{Names}
use Rattle.tv_step.specs.Machine.{start, end_of}
use Rattle.tv_step.specs.Range.{AreWords}
use Rattle.tv_step.specs.declared.end.End.{End}
use Rattle.tv_plan.specs.declared.inputs.Inputs.{Inputs}
use Rattle.tv_plan.specs.declared.refusal.Bad.{Bad}
use Rattle.tv_plan.specs.declared.refusal.What.TheVariants.{TapeWords, AuxWords}
use Rattle.tv_plan.specs.Claims.{Holds, Then}
use Rattle.tv_plan.specs.Flaws.{Flaw}
use Rattle.tv_plan.specs.Plan.{Named, Look, ◌>>=◌, input, settled}
use Rattle.tv_plan.specs.Programs.{HasImage, bits, program_in, program_flaws}
use Rattle.tv_plan.specs.Tapes.{numbers_in, tape_flaws}

-- the files of the two tapes, each at a word: words of a width
abbrev pub primary_in : ℕ → ℕ → List ℕ → Result (List ℕ) Bad
primary_in word w = numbers_in word TapeWords (2 ^ w) TAPE_WORDS

abbrev pub aux_in : ℕ → ℕ → List ℕ → Result (List ℕ) Bad
aux_in word w = numbers_in word AuxWords (2 ^ w) AUX_WORDS

-- the three files, each read and judged before the next; the text sets the width
unfoldable pub inputs_of : Named → Named → Named → Names → Look Inputs
inputs_of text tape aux files = do
  program ← input text program_in files
  primary ← input tape (primary_in tape.word (bits program.width)) files
  auxiliary ← input aux (aux_in aux.word (bits program.width)) files
  settled (Ok (record { program = program; tape = primary; aux = auxiliary }))

-- what the three files may be refused for, the tapes being at these words
abbrev pub input_flaws : ℕ → ℕ → List Flaw
input_flaws tape aux = program_flaws ++ tape_flaws tape TapeWords ++ tape_flaws aux AuxWords

-- words of the program's width, and no more of them than are allowed
pub record AreInputs (inputs : Inputs) : Type 0 where
  pub image : HasImage inputs.program
  pub tape : AreWords (bits inputs.program.width) inputs.tape
  pub tape_fits : length inputs.tape ≤ TAPE_WORDS
  pub aux : AreWords (bits inputs.program.width) inputs.aux
  pub aux_fits : length inputs.aux ≤ AUX_WORDS

-- the end of the run of at most t steps
abbrev pub run_end : ℕ → Inputs → End
run_end steps inputs =
    end_of (bits inputs.program.width) steps (start (bits inputs.program.width) inputs.program.words inputs.tape inputs.aux)

-- the three files hold a program and two tapes, or the first of them that is refused is refused for this
abbrev pub HasInputs : Names → List ℕ → List ℕ → List ℕ → Result Inputs Bad → Type 0
HasInputs files text tape aux =
    Then (Holds program_in (files text)) (λ program.
    Then (Holds (primary_in 2 (bits program.width)) (files tape)) (λ primary.
    Then (Holds (aux_in 3 (bits program.width)) (files aux)) (λ auxiliary held.
    held ≡ Ok (record { program = program; tape = primary; aux = auxiliary }))))
