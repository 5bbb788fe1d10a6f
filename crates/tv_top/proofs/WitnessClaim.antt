-- `witness`: what it promises.
use Rattle.tv_core.proofs.Common.{◌≡◌, ◌≤◌, ℕ, true, List, [], ◌∷◌, length, Ok, refl, sym, arith}
use Rattle.std.proofs.Common.{codes}
use Rattle.tv_stages.specs.declared.nets.Net.{Net}
use Rattle.tv_core.specs.declared.limits.TheConstants.{STEPS}
use Rattle.tv_layout.proofs.Systems.{system_complete}
use Rattle.tv_layout.specs.RunInputs.{run_on}
use Rattle.tv_step.specs.Machine.{Accepts}
use Rattle.tv_step.specs.RunTrace.{IsRefused}
use Rattle.tv_step.specs.declared.end.End.{End}
use Rattle.tv_step.specs.declared.end.End.TheVariants.{Answer, Silent}
use Rattle.tv_step.specs.declared.run_trace.TraceFault.TheVariants as traces
use Rattle.tv_plan.proofs.Common.{Outside, Named, name_at, Completes, bits}
use Rattle.tv_plan.specs.declared.inputs.Inputs.{Inputs}
use Rattle.tv_plan.proofs.AnswerLaws.{completes_nothing}
use Rattle.tv_plan.specs.declared.refusal.Finish.TheVariants.{Quiet, NoRun}
use Rattle.tv_plan.specs.Contents.{Content.{Values}}
use Rattle.tv_fill.specs.Filled.{Filled, IsFilling}
use Rattle.tv_plan.specs.Kinds.{is_witness}
use Rattle.tv_plan.specs.Inputs.{inputs_of, AreInputs}
use Rattle.tv_top.specs.Witness.{WitnessWords, program_values, witness_by, witness_ends, witness_form, witness_plan, IsWitness, HasWitness, OnWitness}
use Rattle.tv_plan.proofs.ClaimLaws.{Form, FormOf, Promises, leads_to, if_ok, shows_more}
use Rattle.tv_plan.proofs.InputLaws.{inputs_shown}
use Rattle.tv_plan.proofs.ProgramLaws.{inputs_are}
use Rattle.tv_top.proofs.SystemLimits.{within_limits}
use Rattle.tv_plan.proofs.RunClaim.{accepted}

-- it says nothing, or that there is no run
pub may_end : (net : Net) (t : ℕ) (inputs : Inputs) (end : End) → is_witness (witness_by net t inputs end).finish ≡ true
may_end net t inputs (Silent steps) = refl
may_end net t inputs _ = refl

pub witness_is : (net : Net) (t : ℕ) (inputs : Inputs) (v : ℕ) → AreInputs inputs → 1 ≤ t → t ≤ STEPS
    → Accepts (bits inputs.program.width) inputs.program.words inputs.tape inputs.aux t v → IsWitness net t inputs v
unfolding program_values
witness_is net t inputs v are some most accepts =
    let fits = within_limits inputs.program (length inputs.tape) t are.image are.tape_fits some most in
    record {
      accepts = accepts;
      fills = system_complete net (run_on (bits inputs.program.width) inputs.program.words inputs.tape inputs.aux t) v fits are.tape are.aux accepts;
    }

-- what is given for a run that answers: the outcome is of these values
pub filled : (w : ℕ) (net : Net) (t : ℕ) (inputs : Inputs) (filling : Filled) → w ≡ bits inputs.program.width
    → IsFilling net (run_on w inputs.program.words inputs.tape inputs.aux t) filling →
    witness_ends net t inputs ≡ record { files = Values filling.values ∷ []; finish = Quiet }
unfolding program_values
filled w net t inputs filling width is = let fills = rw width at is in rw (fills.answer.2, fills.values) refl

-- and for one that doesn't there are none
pub unfilled : (w : ℕ) (net : Net) (t : ℕ) (inputs : Inputs) (end : End) (places : List Named) (outside : Outside) → w ≡ bits inputs.program.width
    → IsRefused w inputs.program.words inputs.tape inputs.aux t (traces.NoRun end) →
    Completes places (witness_ends net t inputs) outside outside (Ok (NoRun end))
unfilled w net t inputs (Answer v step) places outside width is = let none = rw width at is in absurd (none.1 v (accepted t inputs v step (sym none.0)))
unfilled w net t inputs end places outside width is = let none = rw width at is in
    rw (← none.0) (completes_nothing places (witness_by net t inputs end) (Ok (NoRun end)) outside refl)

pub witnesses : (form : Form) → FormOf form (codes "witness") witness_form → Promises form OnWitness
witnesses form named words count call answers text tape aux number name last net t are is_net is first second third some most files known =
    let given : WitnessWords =
    record { net = net; text = name_at 1 text; tape = name_at 2 tape; aux = name_at 3 aux; t = t; witness = name_at 5 name } in
    leads_to (witness_plan given) (witness_ends net t) (inputs_of (name_at 1 text) (name_at 2 tape) (name_at 3 aux)) (HasWitness given files)
    (form words) count files call
    (rw (are, named (text ∷ tape ∷ aux ∷ number ∷ name ∷ last), is_net, is) refl) ((first, tt), ((second, tt), ((third, tt), (tt, tt))))
    (omega arith, most, tt) refl known answers
    (shows_more _ _ _ (inputs_shown text tape aux files) (λ held has. record {
      inputs = has;
      witness = if_ok held _ (λ inputs is v step end. witness_is net t inputs v (inputs_are text tape aux files inputs (rw is at has)) (omega arith) most
          (accepted t inputs v step end));
    }))
