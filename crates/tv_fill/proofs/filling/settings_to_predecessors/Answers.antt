use Rattle.tv_core.proofs.Common.{length, map, ap, arith, length-map}
use Rattle.tv_argument.proofs.Reached.{predecessors_right}
use Rattle.tv_lines.specs.PackedLines.{unpacked}
use Rattle.tv_fill.proofs.filling.settings_to_predecessors.Goals as goal

pub settings_for-requires-clause-small : goal.settings_for-requires-clause-small
settings_for-requires-clause-small c =
    let items = c.args.items.now in
    omega (
      arith,
      c.requires.few,
      length-map items unpacked,
      predecessors_right.long (map unpacked items),
      ap length c.in_ok-order.ensures,
      ap length c.deref.ensures.value,
    )
