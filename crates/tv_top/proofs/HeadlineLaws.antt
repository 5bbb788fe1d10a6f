-- The whole claim over bytes: each command's part of it, from the laws of the layers below.
use Rattle.tv_core.proofs.Common.{◌≡◌, ◌≤◌, ◌+◌, ℕ, suc, List, [], ◌∷◌, length, take, drop, Ok, Err, refl, sym, ap, ap₂, ◌∙◌, arith, cond_both}
use Rattle.tv_core.proofs.Common.{slice_index, HasFrom}
use Rattle.std.proofs.Common.{◌↔◌}
use Rattle.std.specs.Prelude.{nat_le, Result, Some, ◌^◌}
use Rattle.std.proofs.lemmas.Bool.{le-leb, leb-true}
use Rattle.std.proofs.lemmas.List.{drop_more}
use Rattle.tv_stages.specs.declared.nets.Net.{Net}
use Rattle.tv_check.proofs.Verdicts.{yes_exactly}
use Rattle.tv_check.specs.Verdict.{HasRoom, judge}
use Rattle.tv_check.specs.declared.verdict.Verdict.{Verdict}
use Rattle.tv_check.specs.declared.verdict.Verdict.TheVariants as verdicts
use Rattle.tv_core.specs.Constraints.{System, Sat, Extends}
use Rattle.tv_core.specs.declared.limits.TheConstants.{TAPE_WORDS, AUX_WORDS, STEPS, TEXT_BYTES}
use Rattle.tv_extract.proofs.ExtractLaws.{extracted_is_run, satisfying_have_runs}
use Rattle.tv_extract.specs.Runs.{IsRunOf}
use Rattle.tv_layout.proofs.SystemSizes.{system_sized}
use Rattle.tv_layout.proofs.Systems.{system_reduces}
use Rattle.tv_layout.specs.Places.{WithinLimits}
use Rattle.tv_layout.specs.Reduces.{Reduces}
use Rattle.tv_step.specs.declared.end.End.TheVariants.{Answer}
use Rattle.tv_tape.proofs.Narrow.{numbers_below, numbers_few}
use Rattle.tv_tape.specs.Tape.{text_of, tape_of}
use Rattle.tv_wtns.proofs.ValueLaws.{assignments_below}
use Rattle.tv_wtns.specs.Wtns.{assignment_of}
use Rattle.tv_plan.proofs.ProgramLaws.{has_image, within_ok}
use Rattle.tv_plan.proofs.RunClaim.{accepted}
use Rattle.tv_plan.specs.declared.inputs.Inputs.{Inputs}
use Rattle.tv_plan.specs.declared.programs.Program.{Program}
use Rattle.tv_plan.specs.declared.refusal.Bad.{Bad}
use Rattle.tv_plan.specs.declared.refusal.Bad.TheVariants as bad
use Rattle.tv_plan.specs.declared.refusal.Finish.TheVariants as finishes
use Rattle.tv_plan.specs.declared.refusal.What.{What}
use Rattle.tv_plan.specs.declared.refusal.What.TheVariants.{TapeWords, AuxWords, TextBytes}
use Rattle.tv_plan.specs.Contents.{bytes_in, Content.{Constraints, Values}}
use Rattle.tv_plan.specs.Inputs.{AreInputs}
use Rattle.tv_plan.specs.Programs.{HasImage, bits, program_by, program_in}
use Rattle.tv_plan.specs.Plan.{within}
use Rattle.tv_plan.specs.Finds.{made_by}
use Rattle.tv_plan.specs.Tapes.{tape_stop, numbers_of, numbers_in}
use Rattle.tv_tape.specs.declared.items.TapeFault.{TapeFault}
use Rattle.tv_top.specs.Assignment.{assigned_run}
use Rattle.tv_top.specs.Build.{program_runs, program_system}
use Rattle.tv_top.specs.Witness.{program_values, witness_by}
use Rattle.tv_top.specs.Headline.{Assembles, IsTape, AreTapes, AreReadBack, CheckAccepts}
use Rattle.tv_top.specs.Headline.{IsWitnessed, IsExtracted, Headline, YesToRuns}
use Rattle.tv_top.proofs.SystemLimits.{within_limits}
use Rattle.tv_top.proofs.TapesComeBack.{extracted_are_taken}
use Rattle.tv_top.proofs.WitnessClaim.{witness_is}

-- ---- texts
-- the file of a text that assembles holds the program
pub assembled_in : (text : List ℕ) (program : Program) → Assembles text program → program_in text ≡ Ok program
unfolding program_by
assembled_in text program a = rw (le-leb (length text) TEXT_BYTES a.short, ← a.width, a.words) refl

-- what is read of a file within the limit of bytes is of a short one
pub short_file : {A : Type 0} (what : What) (most : ℕ) (read : List ℕ → Result A Bad) (bytes : List ℕ) (x : A) → within what most read bytes ≡ Ok x
    → length bytes ≤ most
short_file what most read bytes x e =
    cond_both (nat_le (length bytes) most) (read bytes) (Err (bad.Limit what (most + 1) most)) (λ made. made ≡ Ok x → length bytes ≤ most)
    (λ small _. leb-true (length bytes) most small) (λ _ e. absurd cc) e

image_of : (text : List ℕ) (program : Program) → Assembles text program → HasImage program
image_of text program a =
    has_image (Some text) program (record { bytes = text; there = refl; reads = assembled_in text program a })

-- numbers that are made of a tape's text are read of it
tape_read : (word : ℕ) (what : What) (read : Result (List ℕ) TapeFault) (numbers : List ℕ) → made_by what (tape_stop word what) read ≡ Ok numbers
    → read ≡ Ok numbers
tape_read word what (Ok words) numbers e = cc
tape_read word what (Err fault) numbers e = cc

-- numbers that are read of a tape's file are those of its text
pub tape_is : (word : ℕ) (what : What) (below most : ℕ) (text numbers : List ℕ) → numbers_in word what below most text ≡ Ok numbers
    → IsTape text below most numbers
unfolding numbers_of
tape_is word what below most text numbers e = record {
  short = short_file TextBytes TEXT_BYTES (numbers_of word what below most) text numbers e;
  read = tape_read word what (tape_of text below most) numbers (within_ok TextBytes TEXT_BYTES (numbers_of word what below most) text numbers e);
}

-- a program and its tapes, read of texts, are what `witness` takes
inputs_fit : (program : Program) (t : ℕ) (tape aux x u : List ℕ) (v step : ℕ) → HasImage program → AreTapes program t tape aux x u v step
    → AreInputs (record { program = program; tape = x; aux = u })
inputs_fit program t tape aux x u v step image a = record {
  image = image;
  tape = numbers_below tape x (2 ^ bits program.width) TAPE_WORDS a.primary.read;
  tape_fits = numbers_few tape x (2 ^ bits program.width) TAPE_WORDS a.primary.read;
  aux = numbers_below aux u (2 ^ bits program.width) AUX_WORDS a.auxiliary.read;
  aux_fits = numbers_few aux u (2 ^ bits program.width) AUX_WORDS a.auxiliary.read;
}

-- ---- `witness`
witnessed : (net : Net) (n t : ℕ) (program : Program) → HasImage program → 1 ≤ t → t ≤ STEPS → (tape aux x u : List ℕ) (v step : ℕ)
    → AreTapes program t tape aux x u v step → length x ≡ n → IsWitnessed net (program_system net n t program) n t program x u v
unfolding program_system
witnessed net n t program image some most tape aux x u v step a long =
    let inputs : Inputs = record { program = program; tape = x; aux = u } in
    let z = program_values net t inputs v in
    let is = witness_is net t inputs v (inputs_fit program t tape aux x u v step image a) some most (accepted t inputs v step a.answers) in
    record {
      file = bytes_in (Values z);
      leaves = rw a.answers (record { files_are = refl; ends = refl });
      z = z;
      read = λ back. let back' : AreReadBack (witness_by net t inputs (Answer v step)) = rw a.answers at back in back'.0;
      sat = rw long at is.fills.sat;
      extends = rw long at is.fills.extends;
      taken = rw long at is.fills.taken;
    }

-- ---- `check`
yes_of : (verdict : Verdict) → finishes.Verdict verdict ≡ finishes.Verdict verdicts.Yes → verdict ≡ verdicts.Yes
yes_of verdict e = cc

accepts : (system : System) (witness z x : List ℕ) → HasRoom system → assignment_of witness ≡ Ok z
    → CheckAccepts system z x ↔ (Sat system z × Extends system z x)
accepts system witness z x room is =
    let exactly = yes_exactly system z x room (assignments_below witness z is) in (
      λ left. exactly.0 (yes_of (judge system z x) left.ends),
      λ both. let yes = exactly.1 both in record { files_are = refl; ends = rw yes refl },
    )

-- ---- `extract`
-- numbers that an assignment has in a row stand there in its list
front_from : (z : List ℕ) (k : ℕ) (xs : List ℕ) → HasFrom z k xs → k + length xs ≤ length z → take (length xs) (drop k z) ≡ xs
front_from z k [] has fits = refl
front_from z k (x ∷ xs) has fits =
    ap (take (suc (length xs))) (drop_more z k 0 (omega (arith, fits)))
    ∙ ap₂ (λ (v : ℕ) (vs : List ℕ). v ∷ vs) has.0 (front_from z (k + 1) xs has.1 (omega (arith, fits)))

extends_run : (system : System) (n : ℕ) (z x : List ℕ) (v : ℕ) → HasRoom system → Sat system z → system.outputs + system.inputs ≡ 1 + n → length x ≡ n
    → v ≡ slice_index z 1 → HasFrom z 2 x → Extends system z (v ∷ x)
extends_run system n z x v room sat publics long answer has = record {
  publics = omega (arith, publics, long);
  values = front_from z 1 (v ∷ x) (sym answer, has) (omega (arith, publics, long, room, sat.each_wire));
}

extracted : (net : Net) (n t : ℕ) (program : Program) (z : List ℕ) → WithinLimits (program_runs n t program) → HasRoom (program_system net n t program)
    → Sat (program_system net n t program) z → IsExtracted net (program_system net n t program) n t program z
unfolding program_system assigned_run
extracted net n t program z fits room sat =
    let runs = program_runs n t program in
    let found = satisfying_have_runs net runs z fits sat in
    let run = found.run in
    let is : IsRunOf runs z run = extracted_is_run net runs z run found.is in
    let publics = (system_reduces net runs fits).publics in
    let texts = extracted_are_taken program.width program.words z n t run fits.tape_fits fits.steps_fit is in
    record {
      tape = text_of run.tape;
      aux = text_of run.aux;
      v = run.answer;
      step = run.step;
      leaves = rw found.is (record { files_are = refl; ends = refl });
      is = record {
        x = run.tape;
        u = run.aux;
        tapes = record {
          primary = tape_is 2 TapeWords (2 ^ bits program.width) TAPE_WORDS (text_of run.tape) run.tape texts.tape;
          auxiliary = tape_is 3 AuxWords (2 ^ bits program.width) AUX_WORDS (text_of run.aux) run.aux texts.aux;
          answers = is.answers;
        };
        extends = extends_run (program_system net n t program) n z run.tape run.answer room sat publics is.many is.answer is.tape;
        taken = sym is.aux;
        reads = found.reads;
      };
    }

-- ---- all of it
reduces_runs : (net : Net) (n t : ℕ) (program : Program) → WithinLimits (program_runs n t program)
    → Reduces (program_system net n t program) (program_runs n t program)
unfolding program_system
reduces_runs net n t program fits = system_reduces net (program_runs n t program) fits

-- it has wires for the constant 1 and its public numbers
room_of : (net : Net) (n t : ℕ) (program : Program) → WithinLimits (program_runs n t program) → HasRoom (program_system net n t program)
unfolding program_system
room_of net n t program fits =
    let sized = system_sized net (program_runs n t program) fits in
    omega (arith, (system_reduces net (program_runs n t program) fits).publics, sized.wires)

pub headline : Headline
headline net n t text program assembles few some most =
    let image = image_of text program assembles in
    let fits = within_limits program n t image few some most in
    let system = program_system net n t program in
    let room = room_of net n t program fits in
    record {
      file = bytes_in (Constraints system);
      leaves = record { files_are = refl; ends = refl };
      system = system;
      built = λ back. back.0;
      reduces = reduces_runs net n t program fits;
      witnesses = λ tape aux x u v step tapes long. witnessed net n t program image some most tape aux x u v step tapes long;
      checks = λ witness z x is. accepts system witness z x room is;
      extracts = λ witness z is sat. extracted net n t program z fits room sat;
    }

pub yes_to_runs : YesToRuns
yes_to_runs net n t program claim v x words long = (
  (λ witness z is yes. let both = (claim.checks witness z (v ∷ x) is).0 yes in
      (claim.reduces.only v x words long (record { z = z; sat = both.0; extends = both.1 })).run),
  (λ run. claim.reduces.where_ v x words long run),
)
