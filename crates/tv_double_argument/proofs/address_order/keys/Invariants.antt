use Rattle.tv_core.proofs.Common.{◌≡◌}
use Rattle.tv_doubles.specs.Doubles.{key}
use Rattle.tv_stages.specs.Stages.{places}
use Rattle.tv_double_argument.proofs.address_order.keys.Given as goal

abbrev pub invariant-loop-i : goal.invariant-loop-i
invariant-loop-i g l = l.keys.items ≡ places l.i (key (g.L.DoubleNumbers.numbers l.lines).line)
