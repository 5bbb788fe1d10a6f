use Rattle.tv_core.proofs.Common.{◌≡◌, map, take}
use Rattle.tv_lines.specs.Ordered.{key}
use Rattle.tv_lines.specs.PackedLines.{unpacked}
use Rattle.tv_argument.proofs.address_order.keys.Given as goal

abbrev pub invariant-loop-pair : goal.invariant-loop-pair
invariant-loop-pair l = l.keys.items ≡ map (λ pair. key (unpacked pair)) (take l.pair-index l.pairs)
