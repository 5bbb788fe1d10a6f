use Rattle.std.proofs.Common.{◌≡◌, ◌+◌, ◌*◌, ◌≤◌, ◌∙◌, ap, arith}
use Rattle.tv_stages.specs.Stages.{first_switch}
use Rattle.tv_stages.proofs.Shapes.{first_none, first_more, first_few, stages_few, count_at}
use Rattle.tv_stages.proofs.shape.first_switch.Goals as goal

pub loop-m-init : goal.loop-m-init
loop-m-init c = record { is = first_none c.args.net c.args.slots; few = omega arith }

pub overflow_add-first : goal.overflow_add-first
overflow_add-first c =
    let most = stages_few c.args.slots c.requires.small in
    let early : c.loop-m.m ≤ 61 = omega (arith, c.loop-m-test.true, c.requires.within) in
    let few = first_few c.loop-m.m c.args.slots c.loop-m.first early c.requires.small c.loop-m.invariant.few in
    omega (arith, c.from-first.ensures, c.switches.type_inv)

pub loop-m-preserved : goal.loop-m-preserved
loop-m-preserved c =
    let made = c.new.ensures in
    let more = c.from-first.ensures ∙ c.switches.ensures.is
    ∙ count_at c.new.result.net c.args.net c.new.result.slots c.args.slots c.new.result.number c.loop-m.m made.net made.slots made.number in
    record {
      is = ap (λ n. n + c.from-first.result) c.loop-m.invariant.is ∙ ap (λ n. first_switch c.args.net c.args.slots c.loop-m.m + n) more
          ∙ first_more c.args.net c.args.slots c.loop-m.m;
      few = let small = c.switches.ensures.few in let at = made.slots in omega (arith, c.from-first.ensures, c.loop-m.invariant.few);
    }

pub returns : goal.returns
returns c =
    let last : c.loop-m.m ≡ c.args.l = omega (arith, c.loop-m-test.false, c.loop-m.auto.m-end) in
    record {
      is = c.loop-m.invariant.is ∙ ap (λ m. first_switch c.args.net c.args.slots m) last;
      few = let few = c.loop-m.invariant.few in let same = ap (λ m. m * c.args.slots) last in omega arith;
    }
