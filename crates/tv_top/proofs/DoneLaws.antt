-- A call that is done leaves what the headline speaks of.
use Rattle.tv_core.proofs.Common.{◌≡◌, ◌≤◌, ◌^◌, ℕ, List, [], ◌∷◌, length, Result, Ok, Err, Some, inl, inr, refl, sym, ◌∙◌}
use Rattle.tv_asm.specs.Assembly.{assembled}
use Rattle.tv_asm.specs.declared.fault.AsmFault.{AsmFault}
use Rattle.tv_stages.specs.declared.nets.Net.{Net}
use Rattle.tv_check.proofs.Room.{has_room}
use Rattle.tv_check.proofs.Verdicts.{yes_exactly}
use Rattle.tv_check.specs.Verdict.{HasRoom}
use Rattle.tv_check.specs.declared.verdict.Verdict.{Verdict}
use Rattle.tv_check.specs.declared.verdict.Verdict.TheVariants as verdicts
use Rattle.tv_core.specs.declared.field.TheConstants.{P}
use Rattle.tv_core.specs.declared.limits.TheConstants.{TAPE_WORDS, AUX_WORDS, CHECK_WORDS, TEXT_BYTES}
use Rattle.tv_extract.specs.declared.run.Run.{Run}
use Rattle.tv_r1cs_read.specs.R1cs.{r1cs_system}
use Rattle.tv_step.specs.declared.end.End.{End}
use Rattle.tv_step.specs.declared.end.End.TheVariants.{Answer, Undefined, Silent}
use Rattle.tv_step.specs.declared.not_run.NotRun.{NotRun}
use Rattle.tv_tape.specs.Tape.{text_of}
use Rattle.tv_wtns.proofs.ValueLaws.{assignments_below}
use Rattle.tv_wtns.specs.Wtns.{assignment_of}
use Rattle.tv_plan.proofs.Common.{Named, Outcome, Names, Call, Holds, Then, AreRead, AnswersOrStops, files_of, files_with, bits, image_words}
use Rattle.tv_plan.proofs.Common.{width_of_text, program_result, program_in, program_of, bad_status, finish_status, bytes_in}
use Rattle.tv_plan.proofs.ContainerReads.{read_of}
use Rattle.tv_plan.proofs.ProgramLaws.{within_ok}
use Rattle.tv_plan.specs.declared.inputs.Inputs.{Inputs}
use Rattle.tv_plan.specs.declared.programs.Program.{Program}
use Rattle.tv_plan.specs.declared.refusal.Bad.{Bad}
use Rattle.tv_plan.specs.declared.refusal.Bad.TheVariants as bad
use Rattle.tv_plan.specs.declared.refusal.What.TheVariants.{TapeWords, AuxWords, TextBytes}
use Rattle.tv_plan.specs.declared.status.Status.TheVariants.{Done}
use Rattle.tv_plan.specs.Check.{HasVerdict}
use Rattle.tv_plan.specs.Claims.{status_by, written_by}
use Rattle.tv_plan.specs.Containers.{system_bad, witness_bad, witness_in}
use Rattle.tv_plan.specs.Contents.{Content.{Constraints, Values}}
use Rattle.tv_plan.specs.Inputs.{HasInputs, run_end}
use Rattle.tv_plan.specs.Programs.{program_by}
use Rattle.tv_plan.specs.Status.{verdict_status}
use Rattle.tv_top.specs.Assignment.{Assigned, assigned_run, run_ends}
use Rattle.tv_top.specs.Build.{program_system}
use Rattle.tv_top.specs.Done.{BuildLeads, CheckLeads, ExtractLeads, WitnessLeads, CheckIsDone, WitnessIsDone, ExtractIsDone}
use Rattle.tv_top.specs.Extract.{ExtractWords, extract_ends, run_written}
use Rattle.tv_top.specs.Headline.{Assembles}
use Rattle.tv_top.specs.Witness.{WitnessWords, program_values, witness_by, witness_ends}
use Rattle.tv_top.proofs.HeadlineLaws.{short_file, tape_is}

-- ---- calls
never_done : (why : Bad) → ¬ (bad_status why ≡ Done)
never_done (bad.Program line why) e = cc
never_done (bad.Tape word at) e = cc
never_done (bad.System at why) e = cc
never_done (bad.Witness at why) e = cc
never_done (bad.Image len) e = cc
never_done (bad.Limit what has most) e = cc

-- what a call that is done found, and left
record Found {A : Type 0} (places : List Named) (ends : A → Outcome) (Held : Result A Bad → Type 0) (files : Names) (call : Call) : Type 0 where
  found : A
  is : Held (Ok found)
  done : finish_status (ends found).finish ≡ Done
  after : call.after.contents ≡ files_with (files_of places (ends found).files) (Some files)
  read : AreRead (files_of places (ends found).files)

found_by : {A : Type 0} (places : List Named) (ends : A → Outcome) (Held : Result A Bad → Type 0) (files : Names) (call : Call)
    → AnswersOrStops places ends Held files call → call.status ≡ Done → Found places ends Held files call
found_by {A} places ends Held files call (inl answered) done = by_held answered.held answered.is answered.status answered.contents answered.read
  where
    by_held : (held : Result A Bad) → Held held → call.status ≡ status_by ends held
        → call.after.contents ≡ files_with (written_by places ends held) (Some files)
        → AreRead (written_by places ends held) → Found places ends Held files call
    by_held (Ok x) is status after read = record { found = x; is = is; done = sym status ∙ done; after = after; read = read }
    by_held (Err why) is status after read = absurd (never_done why (sym status ∙ done))
found_by places ends Held files call (inr (inl (word, is, causes))) done = absurd cc
found_by places ends Held files call (inr (inr is)) done = absurd cc

-- ---- texts
by_assembled : (text : List ℕ) (program : Program) (found : Result (List ℕ) AsmFault) → length text ≤ TEXT_BYTES
    → assembled (bits (width_of_text text)) (image_words (width_of_text text)) text ≡ found → program_result (width_of_text text) found ≡ Ok program
    → Assembles text program
by_assembled text program (Ok words) short is e =
    let same : record { width = width_of_text text; words = words } ≡ program = cc in
    rw (← same) (record { short = short; width = refl; words = is })
by_assembled text program (Err fault) short is e = absurd cc

assembles_in : (text : List ℕ) (program : Program) → program_in text ≡ Ok program → Assembles text program
unfolding program_by
assembles_in text program e =
    by_assembled text program (assembled (bits (width_of_text text)) (image_words (width_of_text text)) text)
    (short_file TextBytes TEXT_BYTES program_of text program e) refl (within_ok TextBytes TEXT_BYTES program_of text program e)

-- ---- `build`
pub build_leads : BuildLeads
build_leads given files call answers done =
    let found = found_by _ _ _ files call answers done in
    let holds = found.is.holds in
    record {
      text = holds.bytes;
      there = holds.there;
      program = found.found;
      assembles = assembles_in holds.bytes found.found holds.reads;
      file = bytes_in (Constraints (program_system given.net given.n given.t found.found));
      leaves = record { files_are = refl; ends = refl };
      read = (found.read.0, tt);
      after = found.after;
    }

-- ---- `witness`
-- a run whose end is answered Done has answered
by_end : (net : Net) (t : ℕ) (inputs : Inputs) (end : End) → finish_status (witness_by net t inputs end).finish ≡ Done
    → (v : ℕ) × (step : ℕ) × (end ≡ Answer v step)
by_end net t inputs (Answer v step) e = (v, step, refl)
by_end net t inputs (Undefined op step) e = absurd cc
by_end net t inputs (Silent steps) e = absurd cc

by_inputs : (given : WitnessWords) (files : Names) (call : Call) (inputs : Inputs) (v step : ℕ) → run_end given.t inputs ≡ Answer v step
    → HasInputs files given.text.name given.tape.name given.aux.name (Ok inputs)
    → call.after.contents ≡ files_with (files_of (given.witness ∷ []) (witness_ends given.net given.t inputs).files) (Some files)
    → AreRead (files_of (given.witness ∷ []) (witness_ends given.net given.t inputs).files) → WitnessIsDone given files call
by_inputs given files call inputs v step end (inl (program, text, inl (primary, tape, inl (auxiliary, aux, e)))) after read =
    let same : record { program = program; tape = primary; aux = auxiliary } ≡ inputs = cc in
    let end' : run_end given.t (record { program = program; tape = primary; aux = auxiliary }) ≡ Answer v step = rw (← same) at end in
    let z = program_values given.net given.t (record { program = program; tape = primary; aux = auxiliary }) v in
    let values_read : AreRead (files_of (given.witness ∷ []) (Values z ∷ [])) = rw (← same, end') at read in
    record {
      text = text.bytes;
      there = text.there;
      program = program;
      assembles = assembles_in text.bytes program text.reads;
      tape = tape.bytes;
      tape_there = tape.there;
      aux = aux.bytes;
      aux_there = aux.there;
      x = primary;
      u = auxiliary;
      v = v;
      step = step;
      answers = record {
        primary = tape_is 2 TapeWords (2 ^ bits program.width) TAPE_WORDS tape.bytes primary tape.reads;
        auxiliary = tape_is 3 AuxWords (2 ^ bits program.width) AUX_WORDS aux.bytes auxiliary aux.reads;
        answers = end';
      };
      witness = bytes_in (Values z);
      leaves = rw end' (record { files_are = refl; ends = refl });
      read = rw end' (values_read.0, tt);
      after = rw (← same, end') at after;
    }
by_inputs given files call inputs v step end (inl (program, text, inl (primary, tape, inr (why, refused, e)))) after read = absurd cc
by_inputs given files call inputs v step end (inl (program, text, inr (why, refused, e))) after read = absurd cc
by_inputs given files call inputs v step end (inr (why, refused, e)) after read = absurd cc

pub witness_leads : WitnessLeads
witness_leads given files call answers done =
    let found = found_by _ _ _ files call answers done in
    let end = by_end given.net given.t found.found (run_end given.t found.found) found.done in
    by_inputs given files call found.found end.0 end.1 end.2 found.is.inputs found.after found.read

-- ---- `check`
yes_done : (verdict : Verdict) → verdict_status verdict ≡ Done → verdict ≡ verdicts.Yes
yes_done verdicts.Yes e = refl
yes_done (verdicts.WireCount has wants) e = absurd cc
yes_done (verdicts.NoPublic at) e = absurd cc
yes_done (verdicts.NoConstraint at) e = absurd cc

pub check_leads : CheckLeads
check_leads system witness publics files call answers done =
    let found = found_by _ _ _ files call answers done in
    by_held found.found (yes_done found.found found.done) found.is found.after
  where
    by_held : (verdict : Verdict) → verdict ≡ verdicts.Yes → HasVerdict files system witness publics (Ok verdict) → call.after.contents ≡ Some files
        → CheckIsDone system witness publics files call
    by_held verdict is (inl (s, in_system, inl (z, in_witness, inl (x, in_publics, judged)))) after =
        let read = read_of system_bad (r1cs_system in_system.bytes) s in_system.reads in
        let witness_read = read_of witness_bad (assignment_of in_witness.bytes) z in_witness.reads in
        let room : HasRoom s = rw read at (has_room in_system.bytes) in
        let same : judged.verdict ≡ verdicts.Yes = let one = judged.is in cc in
        let both = (judged.means verdicts.Yes).0 same in
        let accepted = (yes_exactly s z x room (assignments_below in_witness.bytes z witness_read)).1 both in
        record {
          file = in_system.bytes;
          there = in_system.there;
          system = s;
          read = read;
          witness = in_witness.bytes;
          witness_there = in_witness.there;
          z = z;
          witness_read = witness_read;
          publics = in_publics.bytes;
          publics_there = in_publics.there;
          x = x;
          publics_read = tape_is 3 TapeWords P CHECK_WORDS in_publics.bytes x in_publics.reads;
          accepts = record { files_are = refl; ends = rw accepted refl };
          after = after;
        }
    by_held verdict is (inl (s, in_system, inl (z, in_witness, inr (why, refused, e)))) after = absurd cc
    by_held verdict is (inl (s, in_system, inr (why, refused, e))) after = absurd cc
    by_held verdict is (inr (why, refused, e)) after = absurd cc

-- ---- `extract`
-- an assignment whose end is answered Done has a run
by_run : (found : Result Run NotRun) → finish_status (run_ends run_written found).finish ≡ Done → (run : Run) × (found ≡ Ok run)
by_run (Ok run) e = (run, refl)
by_run (Err why) e = absurd cc

abbrev HoldsBoth : Names → List ℕ → List ℕ → Result Assigned Bad → Type 0
HoldsBoth files text witness = Then (Holds program_in (files text))
    (λ program. Then (Holds witness_in (files witness)) (λ z held. held ≡ Ok (record { program = program; z = z })))

by_assigned : (given : ExtractWords) (files : Names) (call : Call) (assigned : Assigned) (run : Run) → assigned_run given.net given.n given.t assigned ≡ Ok run
    → HoldsBoth files given.text.name given.witness.name (Ok assigned)
    → call.after.contents ≡ files_with (files_of (given.tape ∷ given.aux ∷ []) (extract_ends given.net given.n given.t assigned).files) (Some files)
    → ExtractIsDone given files call
by_assigned given files call assigned run is (inl (program, text, inl (z, witness, e))) after =
    let same : record { program = program; z = z } ≡ assigned = cc in
    let is' : assigned_run given.net given.n given.t (record { program = program; z = z }) ≡ Ok run = rw (← same) at is in
    record {
      text = text.bytes;
      there = text.there;
      program = program;
      assembles = assembles_in text.bytes program text.reads;
      witness = witness.bytes;
      witness_there = witness.there;
      z = z;
      read = read_of witness_bad (assignment_of witness.bytes) z witness.reads;
      tape = text_of run.tape;
      aux = text_of run.aux;
      v = run.answer;
      step = run.step;
      leaves = rw is' (record { files_are = refl; ends = refl });
      after = rw (← same, is') at after;
    }
by_assigned given files call assigned run is (inl (program, text, inr (why, refused, e))) after = absurd cc
by_assigned given files call assigned run is (inr (why, refused, e)) after = absurd cc

pub extract_leads : ExtractLeads
extract_leads given files call answers done =
    let found = found_by _ _ _ files call answers done in
    let run = by_run (assigned_run given.net given.n given.t found.found) found.done in
    by_assigned given files call found.found run.0 run.1 found.is.holds found.after
