use Rattle.tv_core.proofs.Common.{◌≡◌, ◌+◌, ◌*◌, sym, ◌∙◌, ap, ap₂, arith, add-one}
use Rattle.tv_network.proofs.Shapes.{width_few, wires_before-zero, wires_before-suc, product_few}
use Rattle.tv_network.specs.Stages.{switches_in, form_of, wires_before}
use Rattle.tv_network.specs.Switches.{width}
use Rattle.tv_network.proofs.shape.Network.stages_wires.Goals as goal

pub loop-l-init : goal.loop-l-init
loop-l-init c = record { is = sym (wires_before-zero c.args.self); few = omega arith }

pub loop-l-preserved : goal.loop-l-preserved
loop-l-preserved c =
    let n = c.args.self in
    let l = c.loop-l.l in
    let made = rw (c.stage.ensures.net, c.stage.ensures.slots, c.stage.ensures.number) at c.switches.ensures.is in
    let count : c.from.result ≡ switches_in n l = c.from.ensures ∙ made in
    let wide : c.from-width.result ≡ width (form_of n l) = c.from-width.ensures ∙ c.width.ensures ∙ ap width c.form.ensures in
    let most = c.switches.ensures.few in
    let five = (width_few (form_of n l)).1 in
    record {
      is = ap₂ (λ a b. a + b) c.loop-l.invariant.is (ap₂ (λ a b. a * b) count wide) ∙ sym (wires_before-suc n l) ∙ ap (wires_before n) (sym (add-one l));
      few = omega (
        arith,
        c.loop-l.invariant.few,
        product_few c.from.result c.from-width.result (omega (arith, c.from.ensures, c.stage.ensures.slots, c.requires.few)) (omega arith),
      );
    }
