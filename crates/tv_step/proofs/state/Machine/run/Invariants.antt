use Rattle.tv_step.specs.Views.{state_of}
use Rattle.tv_step.proofs.RunLaws.{Ran}
use Rattle.tv_step.proofs.state.Machine.run.Given as goal

abbrev pub invariant-loop-taken : goal.invariant-loop-taken
invariant-loop-taken g l = Ran g.row.W l.taken (state_of l.initial.self) (state_of l.self)
