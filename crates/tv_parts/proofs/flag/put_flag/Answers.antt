use Rattle.tv_core.proofs.Common.{some_then, some_first, refused_wires, then_in}
use Rattle.tv_parts.specs.Flag.{next_flag_of}
use Rattle.tv_parts.proofs.flag.put_flag.Goals as goal

pub returns-in_err-left : goal.returns-in_err-left
unfolding next_flag_of
returns-in_err-left g c =
    let p0 = rw (c.opcode_wire.ensures, c.offset-highest.ensures) at c.in_err-left.ensures.emits in
    refused_wires _ _ _ _ c.from_residual.ensures (some_first _ p0)

pub returns-in_err-right : goal.returns-in_err-right
unfolding next_flag_of
returns-in_err-right g c =
    let p0 = rw (c.opcode_wire.ensures, c.offset-highest.ensures) at c.in_ok-left.ensures.emits in
    let p1 = rw c.opcode_wire-2.ensures at c.in_err-right.ensures.emits in
    refused_wires _ _ _ _ c.from_residual-in_err-right.ensures (some_then _ p0 (some_first _ p1))

pub returns-clause-emits : goal.returns-clause-emits
unfolding next_flag_of
returns-clause-emits g c =
    let p0 = rw (c.opcode_wire.ensures, c.offset-highest.ensures) at c.in_ok-left.ensures.emits in
    let p1 = rw c.opcode_wire-2.ensures at c.in_ok-right.ensures.emits in
    let last = rw (c.set_opcodes.ensures.terms, c.set_wire.ensures.terms, c.set_tested.ensures.terms) at c.accumulated.ensures.emits in
    then_in _ _ _ _ _ p0 (then_in _ _ _ _ _ p1 last)
