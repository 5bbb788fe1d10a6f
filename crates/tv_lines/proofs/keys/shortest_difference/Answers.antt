use Rattle.tv_core.proofs.Common.{◌<◌, arith, mod-eq_of_lt}
use Rattle.tv_bits.proofs.OrderLaws.{first_difference-le}
use Rattle.tv_bits.specs.Order.{first_difference}
use Rattle.tv_core.specs.declared.field.TheConstants.{P}
use Rattle.tv_lines.proofs.keys.shortest_difference.Goals as goal

pub returns : goal.returns
returns c =
    let is = rw (c.number.ensures.same, c.number-2.ensures.same) at c.first_difference.ensures in
    let small : first_difference 11 c.args.chunks c.args.after c.args.before
    < P = omega (arith, first_difference-le 11 c.args.chunks c.args.after c.args.before, c.number.ensures) in
    rw (is, mod-eq_of_lt small) at c.of.ensures
