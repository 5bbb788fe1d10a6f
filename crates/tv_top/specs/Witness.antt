-- `witness TEXT TAPE AUX T WITNESS`, which may have one more word, `waksman`: the values of the wires of a program's
-- system for a run that answers.
use Rattle.std.specs.Prelude.{◌≡◌, ◌≢◌, ◌<◌, ◌≤◌, ◌^◌, ℕ, codes, List, [], ◌∷◌, Some, Result, IfOk, Option, None}
use Rattle.tv_stages.specs.declared.nets.Net.{Net}
use Rattle.tv_block.specs.Block.{block_of}
use Rattle.tv_core.specs.declared.limits.TheConstants.{STEPS}
use Rattle.tv_files.specs.Outside.{Names, WhereKnown}
use Rattle.tv_layout.specs.RunInputs.{run_on}
use Rattle.tv_layout.specs.Systems.{run_values}
use Rattle.tv_layout.specs.Values.{IsFill}
use Rattle.tv_step.specs.Machine.{Accepts}
use Rattle.tv_step.specs.declared.end.End.{End}
use Rattle.tv_step.specs.declared.end.End.TheVariants.{Answer, Undefined, Silent}
use Rattle.tv_word.specs.Numeral.{numeral}
use Rattle.tv_plan.specs.declared.inputs.Inputs.{Inputs}
use Rattle.tv_plan.specs.declared.refusal.Bad.{Bad}
use Rattle.tv_plan.specs.declared.refusal.Finish.TheVariants.{Quiet, NoRun}
use Rattle.tv_plan.specs.declared.refusal.What.TheVariants.{Steps}
use Rattle.tv_top.specs.declared.witness.WitnessArgs.{WitnessArgs}
use Rattle.tv_top.specs.Build.{net_word}
use Rattle.tv_plan.specs.Claims.{Call, AnswersOrStops}
use Rattle.tv_plan.specs.Contents.{Content.{Values}}
use Rattle.tv_plan.specs.Kinds.{is_witness}
use Rattle.tv_plan.specs.Inputs.{inputs_of, input_flaws, run_end, HasInputs}
use Rattle.tv_plan.specs.Plan.{Named, Plan, Outcome, name_at, named, outcome_by, with_two}
use Rattle.tv_plan.specs.Programs.{bits}

-- the values for a run that answers v
unfoldable pub program_values : Net → ℕ → Inputs → ℕ → List ℕ
program_values net t inputs v = run_values net (run_on (bits inputs.program.width) inputs.program.words inputs.tape inputs.aux t) v

-- what comes of a run that ends so: its values, or nothing where it doesn't answer
abbrev pub witness_by : Net → ℕ → Inputs → End → Outcome
witness_by net t inputs (Answer v step) = record { files = Values (program_values net t inputs v) ∷ []; finish = Quiet }
witness_by net t inputs (Undefined op step) = record { files = []; finish = NoRun (Undefined op step) }
witness_by net t inputs (Silent steps) = record { files = []; finish = NoRun (Silent steps) }

abbrev pub witness_ends : Net → ℕ → Inputs → Outcome
witness_ends net t inputs = witness_by net t inputs (run_end t inputs)

-- what the words of `witness` say: the network, T, and the names of the four files
pub record WitnessWords : Type 0 where
  pub net : Net
  pub text : Named
  pub tape : Named
  pub aux : Named
  pub t : ℕ
  pub witness : Named

abbrev pub witness_plan : WitnessWords → Plan
witness_plan given = record {
  reads = given.text ∷ given.tape ∷ given.aux ∷ [];
  writes = given.witness ∷ [];
  amounts = record { what = Steps; has = given.t; least = 1; most = STEPS } ∷ [];
  flaws = input_flaws given.tape.word given.aux.word;
  ends_by = is_witness;
  leads_to = λ files. outcome_by (witness_ends given.net given.t) (inputs_of given.text given.tape given.aux files);
}

-- the plan that the command's words ask for
abbrev pub witness_asks : WitnessArgs → Plan
witness_asks args = witness_plan (record {
  net = args.net;
  text = named args.text;
  tape = named args.tape;
  aux = named args.aux;
  t = args.t;
  witness = named args.witness;
})

-- the plan of the words after the command's name, where they have its form
abbrev pub witness_form : List (List ℕ) → Option Plan
witness_form (text ∷ tape ∷ aux ∷ t ∷ witness ∷ last) =
    with_two (λ net t. witness_plan
    (record { net = net; text = name_at 1 text; tape = name_at 2 tape; aux = name_at 3 aux; t = t; witness = name_at 5 witness }))
    (net_word last) (numeral 10 (2 ^ 64) t)
witness_form _ = None

-- the machine accepts by v, and the values satisfy the system, extend v and the tape, and take the words that the run
-- reads
pub record IsWitness (net : Net) (t : ℕ) (inputs : Inputs) (v : ℕ) : Type 0 where
  pub accepts : Accepts (bits inputs.program.width) inputs.program.words inputs.tape inputs.aux t v
  pub fills : IsFill net (block_of (bits inputs.program.width))
      (run_on (bits inputs.program.width) inputs.program.words inputs.tape inputs.aux t) v (program_values net t inputs v)

-- the three files hold a program and two tapes, and where the run on them answers, the values are a witness of that;
-- or the first of them that is refused is refused for this
pub record HasWitness (given : WitnessWords) (files : Names) (held : Result Inputs Bad) : Type 0 where
  pub inputs : HasInputs files given.text.name given.tape.name given.aux.name held
  pub witness : IfOk held (λ inputs. (v step : ℕ) → run_end given.t inputs ≡ Answer v step → IsWitness given.net given.t inputs v)

-- What `witness` promises over files whose contents are known, WITNESS being none of the names that are read, and T
-- within its limit.
abbrev pub Witnesses : WitnessWords → Names → Call → Type 0
Witnesses given files = AnswersOrStops (given.witness ∷ []) (witness_ends given.net given.t) (HasWitness given files) files

-- What a call promises that has these words, where they are those of `witness`.
abbrev pub OnWitness : List (List ℕ) → Call → Type 0
OnWitness words call = (text tape aux number name : List ℕ) (last : List (List ℕ)) (net : Net) (t : ℕ)
    → words ≡ codes "witness" ∷ text ∷ tape ∷ aux ∷ number ∷ name ∷ last
    → net_word last ≡ Some net → numeral 10 (2 ^ 64) number ≡ Some t
    → text ≢ name → tape ≢ name → aux ≢ name → 0 < t → t ≤ STEPS
    → WhereKnown call.before (λ files. Witnesses
    (record { net = net; text = name_at 1 text; tape = name_at 2 tape; aux = name_at 3 aux; t = t; witness = name_at 5 name }) files call)
