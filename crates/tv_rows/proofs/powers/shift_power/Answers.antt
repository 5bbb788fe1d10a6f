use Rattle.tv_core.proofs.Common.{◌≡◌, arith}
use Rattle.tv_rows.specs.Power.{shift_power_of}
use Rattle.tv_rows.proofs.powers.shift_power.Goals as goal

pub returns-then-this-eq16-clause-emits : goal.returns-then-this-eq16-clause-emits
unfolding shift_power_of
returns-then-this-eq16-clause-emits g c =
    let at_16 : g.row.W ≡ 16 = omega (arith, c.if-this-eq16.true) in
    rw at_16 c.low_power.ensures.emits

pub returns-else-this-eq16-clause-emits : goal.returns-else-this-eq16-clause-emits
unfolding shift_power_of
returns-else-this-eq16-clause-emits g c =
    let at_32 : g.row.W ≡ 32 = omega (arith, c.requires.width, c.if-this-eq16.false) in
    rw at_32 c.wide_power.ensures.emits
