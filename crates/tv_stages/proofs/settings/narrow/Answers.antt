use Rattle.std.proofs.Common.{length, arith}
use Rattle.tv_stages.specs.Settings.{narrowed}
use Rattle.tv_stages.proofs.Reorders.{places-is}
use Rattle.tv_stages.proofs.settings.narrow.Goals as goal

pub returns : goal.returns
returns c = places-is (length c.args.q.now) (narrowed c.args.d c.args.q.now c.args.marks.now) c.loop-x.next 0 c.loop-x.invariant.long
    (λ y h. c.loop-x.invariant.is y (omega (arith, c.loop-x-test.false, c.loop-x.auto.x-end)))
