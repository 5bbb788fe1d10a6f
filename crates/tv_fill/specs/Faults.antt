-- The faults of the crates below, as faults of this one.
use Rattle.tv_core.specs.declared.sink.SinkFault.{SinkFault}
use Rattle.tv_core.specs.declared.sink.SinkFault.TheVariants as sinks
use Rattle.tv_fill.specs.declared.fault.FillFault.{FillFault}
use Rattle.tv_fill.specs.declared.fault.FillFault.TheVariants as fills
use Rattle.tv_step.specs.declared.run_trace.TraceFault.{TraceFault}
use Rattle.tv_step.specs.declared.run_trace.TraceFault.TheVariants as traces

-- that of a trace
abbrev pub trace_fault : TraceFault → FillFault
trace_fault (traces.NoRun end) = fills.NoRun end
trace_fault traces.Memory = fills.Memory

-- that of a taker of values
abbrev pub taker_fault : SinkFault → FillFault
taker_fault sinks.Failed = fills.Failed
taker_fault sinks.Memory = fills.Memory
