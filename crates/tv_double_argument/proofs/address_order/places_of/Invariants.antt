use Rattle.tv_core.proofs.Common.{◌≡◌, ◌%◌, ◌^◌, map, take}
use Rattle.tv_double_argument.proofs.address_order.places_of.Given as goal

abbrev pub invariant-loop-key : goal.invariant-loop-key
invariant-loop-key l = l.places.items ≡ map (λ key. key % 2 ^ 20) (take l.key-index l.keys)
