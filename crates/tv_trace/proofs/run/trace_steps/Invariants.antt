use Rattle.std.proofs.Common.{◌≡◌, ◌++◌, ◌-◌, ◌≤◌}
use Rattle.tv_step.specs.Machine.{end_of, end_from}
use Rattle.tv_step.specs.Range.{StateInRange}
use Rattle.tv_step.specs.Views.{state_of}
use Rattle.tv_trace.specs.Before.{left_of}
use Rattle.tv_trace.specs.Trace.{lines_of, lines_from}
use Rattle.tv_trace.proofs.run.trace_steps.Given as goal

abbrev pub invariant-loop-taken : goal.invariant-loop-taken
invariant-loop-taken g l = record {
  range : StateInRange g.row.W (state_of l.machine);
  left : l.left ≡ left_of (state_of l.machine);
  primary : l.left.primary ≤ l.tracing.tapes.primary;
  aux : l.left.aux ≤ l.tracing.tapes.aux;
  text : l.text.items ++ lines_from g.row.W l.tracing.tapes l.tracing.shown l.taken (l.t - l.taken) (state_of l.machine)
      ≡ l.initial.text.items ++ lines_of g.row.W l.tracing.tapes l.tracing.shown l.t (state_of l.initial.machine);
  end : end_from g.row.W l.taken (l.t - l.taken) (state_of l.machine) ≡ end_of g.row.W l.t (state_of l.initial.machine);
}
