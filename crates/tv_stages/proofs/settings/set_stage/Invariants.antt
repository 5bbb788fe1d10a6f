use Rattle.std.proofs.Common.{length, nat_lt}
use Rattle.tv_stages.specs.Stages.{height}
use Rattle.tv_stages.specs.Walks.{bit_by, AreSetTo}
use Rattle.tv_stages.proofs.settings.set_stage.Given as goal

abbrev pub invariant-loop-at : goal.invariant-loop-at
invariant-loop-at l = AreSetTo l.fn.net (length l.r) l.l l.at (bit_by (nat_lt l.l (height (length l.r))) l.r l.marks) l.fn.bits l.bits
