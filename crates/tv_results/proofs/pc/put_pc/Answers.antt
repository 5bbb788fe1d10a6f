use Rattle.tv_core.proofs.Common.{some_then, some_first, refused_wires, then_in}
use Rattle.tv_results.specs.Pc.{pc_of}
use Rattle.tv_results.proofs.pc.put_pc.Goals as goal

pub returns-in_err-wraps : goal.returns-in_err-wraps
unfolding pc_of
returns-in_err-wraps g c =
    let p0 = rw c.opcode_wire-answers.ensures at c.in_err-wraps.ensures.emits in
    refused_wires _ _ _ _ c.from_residual.ensures (some_first _ p0)

pub returns-in_err-by_flag : goal.returns-in_err-by_flag
unfolding pc_of
returns-in_err-by_flag g c =
    let p0 = rw c.opcode_wire-answers.ensures at c.in_ok-wraps.ensures.emits in
    refused_wires _ _ _ _ c.from_residual-in_err-by_flag.ensures (some_then _ p0 (some_first _ c.in_err-by_flag.ensures.emits))

pub returns-clause-emits : goal.returns-clause-emits
unfolding pc_of
returns-clause-emits g c =
    let p0 = rw c.opcode_wire-answers.ensures at c.in_ok-wraps.ensures.emits in
    let q2 = rw (c.set_taken.ensures.terms, c.set_jump.ensures.terms, c.set_after.ensures.terms) at c.accumulated.ensures.emits in
    let p2 = rw c.opcode_wire-answers.ensures at q2 in
    then_in _ _ _ _ _ p0 (then_in _ _ _ _ _ c.in_ok-by_flag.ensures.emits p2)
