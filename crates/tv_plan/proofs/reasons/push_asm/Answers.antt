use Rattle.tv_core.proofs.Common.{append_assoc}
use Rattle.tv_plan.proofs.reasons.push_asm.Goals as goal

pub returns-in-Operands-clause-text : goal.returns-in-Operands-clause-text
returns-in-Operands-clause-text c =
    rw (c.in-Operands.is, c.push_str-in-Operands-2.ensures.bytes, c.push_number-in-Operands.ensures.text, c.push_str-in-Operands.ensures.bytes)
    (rw c.push_number.ensures.text (simp append_assoc))
