use Rattle.tv_core.proofs.Common.{◌≡◌, false}
use Rattle.tv_argument_tests.proofs.wired.wires_of.Given as goal

abbrev pub invariant-loop-line : goal.invariant-loop-line
invariant-loop-line l = l.values.broken ≡ false
