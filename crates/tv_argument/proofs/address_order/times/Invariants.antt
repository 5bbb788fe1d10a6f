use Rattle.tv_core.proofs.Common.{◌≡◌, ◌%◌, ◌^◌, map, take}
use Rattle.tv_argument.proofs.address_order.times.Given as goal

abbrev pub invariant-loop-key : goal.invariant-loop-key
invariant-loop-key l = l.times.items ≡ map (λ key. key % 2 ^ 20) (take l.key-index l.keys)
