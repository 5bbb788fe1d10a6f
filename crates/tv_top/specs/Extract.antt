-- `extract TEXT N T WITNESS TAPE AUX`, which may have one more word, `waksman`: the run that an assignment of a
-- program's system has.
use Rattle.std.specs.Prelude.{◌≡◌, ◌≢◌, ◌<◌, ◌≤◌, ◌^◌, ℕ, codes, List, [], ◌∷◌, Some, Option, None}
use Rattle.tv_stages.specs.declared.nets.Net.{Net}
use Rattle.tv_core.specs.declared.limits.TheConstants.{TAPE_WORDS, STEPS}
use Rattle.tv_extract.specs.declared.run.Run.{Run}
use Rattle.tv_files.specs.Outside.{Names, WhereKnown}
use Rattle.tv_step.specs.declared.end.End.TheVariants.{Answer}
use Rattle.tv_tape.specs.Tape.{text_of}
use Rattle.tv_word.specs.Numeral.{numeral}
use Rattle.tv_top.specs.declared.extract.ExtractArgs.{ExtractArgs}
use Rattle.tv_plan.specs.declared.refusal.Finish.TheVariants as finishes
use Rattle.tv_top.specs.Assignment.{Assigned, assigned_flaws, assigned_of, assigned_run, run_ends, HasAssigned}
use Rattle.tv_top.specs.Build.{net_word, size_amounts}
use Rattle.tv_plan.specs.Claims.{Call, AnswersOrStops}
use Rattle.tv_plan.specs.Contents.{Content.{Bytes}}
use Rattle.tv_plan.specs.Kinds.{is_extract}
use Rattle.tv_plan.specs.Plan.{Named, Plan, Outcome, name_at, named, outcome_by, with_three}

-- a run's two tapes' texts, and the answer with its step
abbrev pub run_written : Run → Outcome
run_written run = record { files = Bytes (text_of run.tape) ∷ Bytes (text_of run.aux) ∷ []; finish = finishes.Run (Answer run.answer run.step) }

abbrev pub extract_ends : Net → ℕ → ℕ → Assigned → Outcome
extract_ends net n t assigned = run_ends run_written (assigned_run net n t assigned)

-- what the words of `extract` say: the network, N and T, and the names of the four files
pub record ExtractWords : Type 0 where
  pub net : Net
  pub text : Named
  pub n : ℕ
  pub t : ℕ
  pub witness : Named
  pub tape : Named
  pub aux : Named

abbrev pub extract_plan : ExtractWords → Plan
extract_plan given = record {
  reads = given.text ∷ given.witness ∷ [];
  writes = given.tape ∷ given.aux ∷ [];
  amounts = size_amounts given.n given.t;
  flaws = assigned_flaws;
  ends_by = is_extract;
  leads_to = λ files. outcome_by (extract_ends given.net given.n given.t) (assigned_of given.text given.witness files);
}

-- the plan that the command's words ask for
abbrev pub extract_asks : ExtractArgs → Plan
extract_asks args = extract_plan (record {
  net = args.net;
  text = named args.text;
  n = args.n;
  t = args.t;
  witness = named args.witness;
  tape = named args.tape;
  aux = named args.aux;
})

-- the plan of the words after the command's name, where they have its form
abbrev pub extract_form : List (List ℕ) → Option Plan
extract_form (text ∷ n ∷ t ∷ witness ∷ tape ∷ aux ∷ last) =
    with_three (λ net n t. extract_plan
    (record { net = net; text = name_at 1 text; n = n; t = t; witness = name_at 4 witness; tape = name_at 5 tape; aux = name_at 6 aux }))
    (net_word last) (numeral 10 (2 ^ 64) n) (numeral 10 (2 ^ 64) t)
extract_form _ = None

-- What `extract` promises over files whose contents are known, the names that are written being none of the others and
-- N and T within their limits.
abbrev pub Extracts : ExtractWords → Names → Call → Type 0
Extracts given files = AnswersOrStops (given.tape ∷ given.aux ∷ []) (extract_ends given.net given.n given.t)
    (HasAssigned given.net given.n given.t (files given.text.name) (files given.witness.name)) files

-- What a call promises that has these words, where they are those of `extract`.
abbrev pub OnExtract : List (List ℕ) → Call → Type 0
OnExtract words call = (text first second witness tape aux : List ℕ) (last : List (List ℕ)) (net : Net) (n t : ℕ)
    → words ≡ codes "extract" ∷ text ∷ first ∷ second ∷ witness ∷ tape ∷ aux ∷ last
    → net_word last ≡ Some net → numeral 10 (2 ^ 64) first ≡ Some n → numeral 10 (2 ^ 64) second ≡ Some t
    → text ≢ tape → text ≢ aux → witness ≢ tape → witness ≢ aux → tape ≢ aux → n ≤ TAPE_WORDS → 0 < t → t ≤ STEPS
    → WhereKnown call.before (λ files. Extracts
    (record { net = net; text = name_at 1 text; n = n; t = t; witness = name_at 4 witness; tape = name_at 5 tape; aux = name_at 6 aux }) files call)
