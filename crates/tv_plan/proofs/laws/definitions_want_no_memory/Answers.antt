use Rattle.tv_plan.proofs.TapeFaults.{tape_wants}
use Rattle.tv_plan.proofs.TextFaults.{text_wants}
use Rattle.tv_plan.proofs.laws.definitions_want_no_memory.Goals as goal

pub returns : goal.returns
returns c = record { texts = text_wants; tapes = tape_wants }
