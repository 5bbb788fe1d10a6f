-- The whole claim, over bytes alone: what the four commands leave of a program text that assembles, N and T being within
-- their limits, and what that is read as.
use Rattle.std.specs.Prelude.{◌≡◌, ◌↔◌, ℕ, ◌^◌, ◌≤◌, List, [], ◌∷◌, length, map, Ok}
use Rattle.std.specs.List.{AllByRecursion}
use Rattle.tv_asm.specs.Assembly.{assembled}
use Rattle.tv_stages.specs.declared.nets.Net.{Net}
use Rattle.tv_block.specs.Block.{block_of}
use Rattle.tv_check.specs.Verdict.{judge}
use Rattle.tv_check.specs.declared.verdict.Verdict.TheVariants.{Yes}
use Rattle.tv_core.specs.Constraints.{System, Sat, Extends}
use Rattle.tv_core.specs.declared.limits.TheConstants.{TAPE_WORDS, AUX_WORDS, STEPS, TEXT_BYTES}
use Rattle.tv_layout.specs.Layout.{taken_of}
use Rattle.tv_layout.specs.Reduces.{HasRun, HasSolution, Reduces}
use Rattle.tv_r1cs_read.specs.R1cs.{r1cs_system}
use Rattle.tv_step.specs.Machine.{start, end_of}
use Rattle.tv_step.specs.Range.{AreWords}
use Rattle.tv_step.specs.Reads.{Reads}
use Rattle.tv_step.specs.declared.end.End.TheVariants.{Answer}
use Rattle.tv_tape.specs.Tape.{tape_of}
use Rattle.tv_wtns.specs.Wtns.{assignment_of}
use Rattle.tv_plan.specs.declared.programs.Program.{Program}
use Rattle.tv_plan.specs.declared.refusal.Finish.{Finish}
use Rattle.tv_plan.specs.declared.refusal.Finish.TheVariants as finishes
use Rattle.tv_plan.specs.Check.{check_ends}
use Rattle.tv_plan.specs.Contents.{bytes_in, IsRead}
use Rattle.tv_plan.specs.Plan.{Outcome}
use Rattle.tv_plan.specs.Programs.{bits, image_words, width_of_text}
use Rattle.tv_top.specs.Build.{program_runs, build_ends}
use Rattle.tv_top.specs.Extract.{extract_ends}
use Rattle.tv_top.specs.Witness.{witness_ends}

-- ---- what texts are read as

-- the text assembles to the program, whose words have the width that the text sets
pub record Assembles (text : List ℕ) (program : Program) : Type 0 where
  pub short : length text ≤ TEXT_BYTES
  pub width : program.width ≡ width_of_text text
  pub words : assembled (bits program.width) (image_words program.width) text ≡ Ok program.words

-- the text is read as these numbers, each below a bound and at most this many
pub record IsTape (text : List ℕ) (below most : ℕ) (numbers : List ℕ) : Type 0 where
  pub short : length text ≤ TEXT_BYTES
  pub read : tape_of text below most ≡ Ok numbers

-- two texts are read as the tapes of a program's run of at most t steps that answers v at this step
pub record AreTapes (program : Program) (t : ℕ) (tape aux x u : List ℕ) (v step : ℕ) : Type 0 where
  pub primary : IsTape tape (2 ^ bits program.width) TAPE_WORDS x
  pub auxiliary : IsTape aux (2 ^ bits program.width) AUX_WORDS u
  pub answers : end_of (bits program.width) t (start (bits program.width) program.words x u) ≡ Answer v step

-- ---- what a command leaves
-- a command that comes to this ends so, and leaves files of these bytes
pub record Leaves (outcome : Outcome) (files : List (List ℕ)) (finish : Finish) : Type 0 where
  pub files_are : map bytes_in outcome.files ≡ files
  pub ends : outcome.finish ≡ finish

-- each file is read as what it is to hold, as a call that is done says of those that it leaves
abbrev pub AreReadBack : Outcome → Type 0
AreReadBack outcome = AllByRecursion IsRead outcome.files

-- `build` leaves this file of a program
abbrev pub BuildLeaves : Net → ℕ → ℕ → Program → List ℕ → Type 0
BuildLeaves net n t program system = Leaves (build_ends net n t program) (system ∷ []) finishes.Quiet

-- what `witness` comes to, for a program and two tapes, and that it leaves this file
abbrev pub witness_of : Net → ℕ → Program → List ℕ → List ℕ → Outcome
witness_of net t program x u = witness_ends net t (record { program = program; tape = x; aux = u })

abbrev pub WitnessLeaves : Net → ℕ → Program → List ℕ → List ℕ → List ℕ → Type 0
WitnessLeaves net t program x u witness = Leaves (witness_of net t program x u) (witness ∷ []) finishes.Quiet

-- `check` says yes to a system, an assignment and public numbers
abbrev pub CheckAccepts : System → List ℕ → List ℕ → Type 0
CheckAccepts system z x = Leaves (check_ends (judge system z x)) [] (finishes.Verdict Yes)

-- `extract` leaves these two texts of a program and an assignment, and says this answer and step
abbrev pub ExtractLeaves : Net → ℕ → ℕ → Program → List ℕ → List ℕ → List ℕ → ℕ → ℕ → Type 0
ExtractLeaves net n t program z tape aux v step =
    Leaves (extract_ends net n t (record { program = program; z = z })) (tape ∷ aux ∷ []) (finishes.Run (Answer v step))

-- ---- the claim

-- A file that `witness` leaves, which is read as an assignment that satisfies the system and extends the answer v and the
-- tape x, and that takes the words that the run on x and u reads.
pub record IsWitnessed (net : Net) (system : System) (n t : ℕ) (program : Program) (x u : List ℕ) (v : ℕ) : Type 0 where
  pub file : List ℕ
  pub leaves : WitnessLeaves net t program x u file
  pub z : List ℕ
  pub read : AreReadBack (witness_of net t program x u) → assignment_of file ≡ Ok z
  pub sat : Sat system z
  pub extends : Extends system z (v ∷ x)
  pub taken : taken_of (block_of (bits program.width)) (program_runs n t program) z ≡ Reads (bits program.width) program.words x u t

-- two texts are the tapes of a run of the assignment: its answer and primary tape are the public numbers, and its
-- auxiliary tape is the words that the assignment takes, all of which it reads
pub record AreRun (system : System) (n t : ℕ) (program : Program) (z tape aux : List ℕ) (v step : ℕ) : Type 0 where
  pub x : List ℕ
  pub u : List ℕ
  pub tapes : AreTapes program t tape aux x u v step
  pub extends : Extends system z (v ∷ x)
  pub taken : taken_of (block_of (bits program.width)) (program_runs n t program) z ≡ u
  pub reads : Reads (bits program.width) program.words x u t ≡ u

-- `extract` turns the assignment back into a run: it leaves two texts, and those that it leaves are the run's tapes
pub record IsExtracted (net : Net) (system : System) (n t : ℕ) (program : Program) (z : List ℕ) : Type 0 where
  pub tape : List ℕ
  pub aux : List ℕ
  pub v : ℕ
  pub step : ℕ
  pub leaves : ExtractLeaves net n t program z tape aux v step
  pub is : AreRun system n t program z tape aux v step

-- What is claimed of a program: `build` leaves a file, which is read as a system that reduces the program's runs. Of each
-- run that answers v, `witness` leaves a file, which is read as an assignment that satisfies the system and extends v and
-- the tape. `check` says yes exactly to the assignments that satisfy the system and extend the public numbers. And
-- `extract` turns each assignment that satisfies the system, whoever made it, back into a run.
pub record IsClaimed (net : Net) (n t : ℕ) (program : Program) : Type 0 where
  pub file : List ℕ
  pub leaves : BuildLeaves net n t program file
  pub system : System
  pub built : AreReadBack (build_ends net n t program) → r1cs_system file ≡ Ok system
  pub reduces : Reduces system (program_runs n t program)
  pub witnesses : (tape aux x u : List ℕ) (v step : ℕ) → AreTapes program t tape aux x u v step → length x ≡ n
      → IsWitnessed net system n t program x u v
  pub checks : (witness z x : List ℕ) → assignment_of witness ≡ Ok z → CheckAccepts system z x ↔ (Sat system z × Extends system z x)
  pub extracts : (witness z : List ℕ) → assignment_of witness ≡ Ok z → Sat system z → IsExtracted net system n t program z

-- for every text that assembles, and N, T and network within the limits
abbrev pub Headline : Type 0
Headline = (net : Net) (n t : ℕ) (text : List ℕ) (program : Program) → Assembles text program → n ≤ TAPE_WORDS → 1 ≤ t → t ≤ STEPS
    → IsClaimed net n t program

-- So, by what is claimed alone: `check` says yes for v and a tape only where a run on it answers v, and where one does
-- there is an assignment that satisfies the system and extends them.
abbrev pub YesToRuns : Type 0
YesToRuns = (net : Net) (n t : ℕ) (program : Program) (claim : IsClaimed net n t program) (v : ℕ) (x : List ℕ)
    → AreWords (bits program.width) (v ∷ x) → length x ≡ n →
    ((witness z : List ℕ) → assignment_of witness ≡ Ok z → CheckAccepts claim.system z (v ∷ x) → HasRun (program_runs n t program) x v)
    × (HasRun (program_runs n t program) x v → HasSolution claim.system (v ∷ x))
