use Rattle.tv_core.proofs.Common.{◌≡◌, ◌+◌, ◌*◌, ◌<◌, ◌∙◌, sym, ap, ap₂, arith, add-one, refl, cases_eq, inl, inr, subst, get_or, length, set}
use Rattle.std.proofs.lemmas.List.{get_or-set_same, get_or-set_other, length-set}
use Rattle.tv_network.proofs.Shapes.{wires_before-zero, wires_before-suc, wires_mono}
use Rattle.tv_network.specs.Stages.{form_of, switches_in, wires_before}
use Rattle.tv_network.specs.Slots.{IsLevel}
use Rattle.tv_network.specs.Switches.{width}
use Rattle.tv_network.specs.declared.levels.Level.{Level}
use Rattle.tv_stages.specs.Stages.{stage_count}
use Rattle.tv_network.proofs.levels.Levels.new.Goals as goal

pub loop-l-init : goal.loop-l-init
loop-l-init c = record { start = omega (arith, wires_before-zero c.args.network); long = refl; each = λ l level h e. absurd (omega arith) }

pub offset-start-requires : goal.offset-start-requires
offset-start-requires c =
    let n = c.args.network in
    let l = c.loop-l.l in
    let within : l < stage_count n.items = omega (arith, c.loop-l-test.true, c.stages-l-end.ensures.is) in
    let count = rw (c.stage-stage.ensures.net, c.stage-stage.ensures.slots, c.stage-stage.ensures.number) at c.switches.ensures.is in
    let made : c.switches.result * c.width.result ≡ switches_in n l * width (form_of n l) =
    ap₂ (λ a b. a * b) count (c.width.ensures ∙ ap width c.form-form.ensures) in
    omega (arith, c.requires.room, c.loop-l.invariant.start, made, wires_mono n l (stage_count n.items) within, wires_before-suc n l)

pub loop-l-preserved : goal.loop-l-preserved
loop-l-preserved c =
    let n = c.args.network in
    let first = c.args.first in
    let l = c.loop-l.l in
    let inv = c.loop-l.invariant in
    let here = c.stage-stage.ensures in
    let within : l < length c.loop-l.levels = omega (arith, inv.long, c.loop-l-test.true, c.stages-l-end.ensures.few) in
    let new : Level = record { stage = c.stage-stage.result; form = c.form-form.result; start = c.loop-l.start } in
    let count = rw (here.net, here.slots, here.number) at c.switches.ensures.is in
    let made : c.switches.result * c.width.result ≡ switches_in n l * width (form_of n l) =
    ap₂ (λ a b. a * b) count (c.width.ensures ∙ ap width c.form-form.ensures) in
    record {
      start = omega (arith, c.offset-start.ensures, inv.start, made, wires_before-suc n l, ap (wires_before n) (add-one l));
      long = length-set c.loop-l.levels l new ∙ inv.long;
      each = λ k level h e. elim (cases_eq k l) [
        | inl same ↦
            let is : level ≡ new = e ∙ ap (λ i. get_or (set c.loop-l.levels l new) i level) same ∙ get_or-set_same c.loop-l.levels l new level within in
            subst (λ v. IsLevel n first k v) (sym is) (record {
              net = here.net;
              slots = here.slots;
              number = here.number ∙ sym same;
              form = c.form-form.ensures ∙ ap (form_of n) (sym same);
              start = inv.start ∙ ap (λ i. first + wires_before n i) (sym same);
            })
        | inr other ↦ inv.each k level (omega arith) (e ∙ get_or-set_other c.loop-l.levels l k new level other)
      ];
    }
