use Rattle.tv_core.proofs.Common.{some_then, some_first, refused_wires, then_in}
use Rattle.tv_inputs.specs.Results.{result_of}
use Rattle.tv_results.proofs.results.put_result.Goals as goal

pub returns-in_err-low : goal.returns-in_err-low
unfolding result_of
returns-in_err-low g c =
    let p0 = rw (c.set_low_gate.ensures.terms, c.set_wire.ensures.terms)
    at c.in_err-low.ensures.emits in
    refused_wires _ _ _ _ c.from_residual.ensures (some_first _ p0)

pub returns-in_err-high : goal.returns-in_err-high
unfolding result_of
returns-in_err-high g c =
    let p0 = rw (c.set_low_gate.ensures.terms, c.set_wire.ensures.terms)
    at c.in_ok-low.ensures.emits in
    let p1 = rw (c.set_opcodes.ensures.terms, c.set_wire-2.ensures.terms) at c.in_err-high.ensures.emits in
    refused_wires _ _ _ _ c.from_residual-in_err-high.ensures (some_then _ p0 (some_first _ p1))

pub returns-in_err-moved : goal.returns-in_err-moved
unfolding result_of
returns-in_err-moved g c =
    let p0 = rw (c.set_low_gate.ensures.terms, c.set_wire.ensures.terms)
    at c.in_ok-low.ensures.emits in
    let p1 = rw (c.set_opcodes.ensures.terms, c.set_wire-2.ensures.terms) at c.in_ok-high.ensures.emits in
    let p2 = rw (c.set_moved_gate.ensures.terms, c.set_wire-3.ensures.terms)
    at c.in_err-moved.ensures.emits in
    refused_wires _ _ _ _ c.from_residual-in_err-moved.ensures (some_then _ p0 (some_then _ p1 (some_first _ p2)))

pub returns-clause-emits : goal.returns-clause-emits
unfolding result_of
returns-clause-emits g c =
    let p0 = rw (c.set_low_gate.ensures.terms, c.set_wire.ensures.terms)
    at c.in_ok-low.ensures.emits in
    let p1 = rw (c.set_opcodes.ensures.terms, c.set_wire-2.ensures.terms) at c.in_ok-high.ensures.emits in
    let p2 = rw (c.set_moved_gate.ensures.terms, c.set_wire-3.ensures.terms)
    at c.in_ok-moved.ensures.emits in
    let last = rw (c.set_wire-4.ensures.terms, c.opcode_wire.ensures, c.set_wire-5.ensures.terms, c.set_parts.ensures.terms, c.opcode_wire-not.ensures)
    at c.accumulated.ensures.emits in
    then_in _ _ _ _ _ p0 (then_in _ _ _ _ _ p1 (then_in _ _ _ _ _ p2 last))
