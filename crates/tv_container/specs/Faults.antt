-- What a refused call makes of the sink, or the taker of values, that writes by it.
use Rattle.tv_core.specs.declared.sink.SinkFault.{SinkFault}
use Rattle.tv_core.specs.declared.sink.SinkFault.TheVariants as sink
use Rattle.tv_files.specs.declared.calls.FileRefusal.{FileRefusal}
use Rattle.tv_files.specs.declared.calls.FileRefusal.TheVariants as file

-- a fault of the outside is a fault, and an allocation failure stays one
abbrev pub sink_fault : FileRefusal → SinkFault
sink_fault file.Failed = sink.Failed
sink_fault file.Memory = sink.Memory
