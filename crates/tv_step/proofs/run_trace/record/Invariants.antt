use Rattle.tv_core.proofs.Common.{◌≡◌}
use Rattle.tv_step.specs.Machine.{state_after}
use Rattle.tv_step.specs.Reads.{ended_after}
use Rattle.tv_step.specs.Trace.{lines_of, states_of}
use Rattle.tv_step.specs.Views.{state_of}
use Rattle.tv_step.proofs.run_trace.record.Given as goal

abbrev pub invariant-loop-taken : goal.invariant-loop-taken
invariant-loop-taken g l = record {
  state : state_of l.machine ≡ state_after g.row.W l.taken (state_of l.initial.machine);
  ended : l.ended ≡ ended_after g.row.W l.taken (state_of l.initial.machine);
  lines : l.lines.items ≡ lines_of g.row.W l.n l.time (state_of l.initial.machine) l.taken;
  states : l.states.items ≡ states_of g.row.W l.n l.m (state_of l.initial.machine) l.taken;
}
