use Rattle.tv_core.proofs.Common.{ℕ, ◌+◌, ◌∙◌, ap, ap₂, arith, length, add-one, sym}
use Rattle.tv_core.proofs.BelowLaws.{sum_below-zero, sum_below-suc}
use Rattle.tv_core.specs.Below.{sum_below}
use Rattle.tv_core.specs.declared.lines.Pair.{Pair}
use Rattle.tv_network.specs.Network.{kept_terms, loose_slot}
use Rattle.tv_network.specs.Stages.{output_at}
use Rattle.tv_network.proofs.costs.loose_terms.Goals as goal

pub loop-j-init : goal.loop-j-init
loop-j-init g c = record { is = sym (sum_below-zero _); few = omega arith }

pub loop-j-preserved : goal.loop-j-preserved
loop-j-preserved g c =
    let s = c.args.levels.now in
    let j = c.loop-j.j in
    let each : ℕ → ℕ = λ j. kept_terms (output_at s.network s.first (g.I.Inputs.pair c.args.items.now) (loose_slot s.network j)) in
    let item = rw (c.loose_slot.ensures, c.stages.ensures.is) at c.set_item.ensures in
    let first = ap length c.terms.ensures.terms ∙ ap (λ (p : Pair). length p.first) item in
    let second = ap length c.terms-in-loop-j.ensures.terms ∙ ap (λ (p : Pair). length p.second) item in
    record {
      is = ap₂ (λ a b. a + b) c.loop-j.invariant.is (ap₂ (λ a b. a + b + 4) first second) ∙ sym (sum_below-suc j each)
          ∙ ap (λ k. sum_below k each) (sym (add-one j));
      few = omega (arith, c.loop-j.invariant.few, c.terms.ensures.fits, c.terms-in-loop-j.ensures.fits);
    }
