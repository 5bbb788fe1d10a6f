use Rattle.tv_core.proofs.Common.{◌≡◌, false, each_below, GivesAll}
use Rattle.tv_regs.specs.Triple.{passing}
use Rattle.tv_regs.proofs.triple.fill_passing.Given as goal

abbrev pub invariant-loop-i : goal.invariant-loop-i
invariant-loop-i g l = GivesAll g.V.Values.giving l.initial.v l.v (each_below l.i (passing l.o l.b l.d l.regs)) × (g.V.Values.giving.broken l.v ≡ false)
