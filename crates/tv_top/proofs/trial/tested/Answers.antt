use Rattle.tv_core.proofs.Common.{◌≡◌, ◌+◌, [], refl, ap, ◌∙◌}
use Rattle.tv_core.specs.Meanings.{Tested, IsTested}
use Rattle.tv_top.proofs.trial.tested.Goals as goal

pub returns : goal.returns
returns c =
    let begun : IsTested c.over-tests.result [] = rw c.over-tests.ensures (record { tested = refl; held = refl; first_failed = refl; sum = refl }) in
    let wires : c.over-tests.result.wires ≡ 2 + c.args.n = ap (λ (s : Tested). s.wires) c.over-tests.ensures ∙ c.public_wires.ensures in
    let puts = c.in-Ok.ensures.emits.puts in
    let is = rw wires at (puts.stands [] begun) in
    let same = puts.keeps ∙ ap (λ (s : Tested). s.z) c.over-tests.ensures in
    rw (c.number.ensures.same, c.sum.ensures, c.held.ensures, c.sizes-counts.ensures.counts, is.sum, is.held, same) refl
