use Rattle.tv_core.proofs.Common.{◌≡◌, ℕ, List, [], false, Ok, Err, refl, sym, ap, ◌∙◌, arith}
use Rattle.tv_stages.specs.declared.nets.Net.TheVariants.{Benes}
use Rattle.tv_core.specs.Meanings.{Kept, kept_giving}
use Rattle.tv_fill.specs.Filled.{FillsIn}
use Rattle.tv_fill.specs.declared.fault.FillFault.{FillFault}
use Rattle.tv_fill.specs.declared.fault.FillFault.TheVariants.{NoRun, Failed, Memory}
use Rattle.tv_layout.specs.RunInputs.{run_on}
use Rattle.tv_layout.specs.Systems.{run_values}
use Rattle.tv_step.specs.Machine.{Accepts}
use Rattle.tv_step.specs.declared.end.End.{End}
use Rattle.tv_step.specs.declared.end.End.TheVariants.{Answer}
use Rattle.tv_top.proofs.trial.values_of.Goals as goal

-- a run answers one number
one_answer : (image x aux : List ℕ) (t u v : ℕ) → Accepts 32 image x aux t u → Accepts 32 image x aux t v → u ≡ v
one_answer image x aux t u v one other =
    let h : Answer u one.0 ≡ Answer v other.0 = sym one.2 ∙ other.2 in
    cc

-- what is given to a list is refused only where memory runs out, where the run answers
refused : (image x aux : List ℕ) (t : ℕ) (old new : Kept) (fault : FillFault) → Accepts 32 image x aux t 0
    → FillsIn kept_giving Benes (run_on 32 image x aux t) old new (Err fault) → fault ≡ Memory
refused image x aux t old new (NoRun end) accepts fills = absurd (fills.0.1 0 accepts)
refused image x aux t old new Failed accepts fills = absurd (let cause = fills.2.cause in omega (arith, cause))
refused image x aux t old new Memory accepts fills = refl

ran : (fault : FillFault) (end : End) → fault ≡ Memory → ¬ (fault ≡ NoRun end)
ran fault end is other = cc

gave : (fault : FillFault) → fault ≡ Memory → ¬ (fault ≡ Failed)
gave fault is other = cc

pub unreachable-requires : goal.unreachable-requires
unreachable-requires c =
    ran _ _ (refused c.args.image.now c.args.tape.now c.args.aux.now c.args.t c.new-values.result c.fill_system.new.v c.in-Err-NoRun.field-0 c.requires.accepts
    c.in-Err-NoRun.ensures.fills) c.in-Err-NoRun.field-0-is

pub unreachable-requires-in-Err-Failed : goal.unreachable-requires-in-Err-Failed
unreachable-requires-in-Err-Failed c =
    gave _ (refused c.args.image.now c.args.tape.now c.args.aux.now c.args.t c.new-values.result c.fill_system.new.v c.in-Err-Failed.field-0 c.requires.accepts
    c.in-Err-Failed.ensures.fills) c.in-Err-Failed.field-0-is

pub returns-in-Ok : goal.returns-in-Ok
returns-in-Ok c =
    let fills : FillsIn kept_giving Benes (run_on 32 c.args.image.now c.args.tape.now c.args.aux.now c.args.t) c.new-values.result c.fill_system.new.v
    (Ok tt) = c.in-Ok.ensures.fills in
    let begun : (c.new-values.result.list ≡ [])
    × (c.new-values.result.broken ≡ false) = (ap (λ (v : Kept). v.list) c.new-values.ensures, ap (λ (v : Kept). v.broken) c.new-values.ensures) in
    (fills.2.stands [] begun).0 ∙ ap (run_values Benes (run_on 32 c.args.image.now c.args.tape.now c.args.aux.now c.args.t))
    (one_answer c.args.image.now c.args.tape.now c.args.aux.now c.args.t fills.0 0 fills.1 c.requires.accepts)
