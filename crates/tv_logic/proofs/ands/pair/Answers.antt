use Rattle.tv_core.proofs.Common.{◌≡◌, ◌*◌, ◌/◌, ◌%◌, ◌^◌, arith}
use Rattle.tv_core.specs.declared.field.TheConstants.{P}
use Rattle.tv_logic.specs.Ands.{and_pair_of}
use Rattle.tv_logic.proofs.ands.pair.Goals as goal

pub returns : goal.returns
unfolding and_pair_of
returns g c =
    let power : 1 * 2 ^ (g.row.W / 4) % 2 ^ 64 % P ≡ 2 ^ (g.row.W / 4) = grind arith in
    let ands = rw (c.bit_wire.ensures, c.bit_wire-2.ensures, c.bit_wire-3.ensures, c.bit_wire-4.ensures, c.of.ensures, power) at c.two_ands.ensures.emits in
    record { emits = ands }
