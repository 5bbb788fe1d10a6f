use Rattle.tv_core.proofs.Common.{some_then, some_first, refused_wires, then_in}
use Rattle.tv_parts.specs.Memory.{byte_of_four}
use Rattle.tv_parts.proofs.memory.byte_of_four.Goals as goal

pub returns-in_err-low : goal.returns-in_err-low
unfolding byte_of_four
returns-in_err-low g c = refused_wires _ _ _ _ c.from_residual.ensures (some_first _ c.in_err-low.ensures.emits)

pub returns-in_err-high : goal.returns-in_err-high
unfolding byte_of_four
returns-in_err-high g c =
    let p1 = rw c.offset.ensures at c.in_err-high.ensures.emits in
    refused_wires _ _ _ _ c.from_residual-in_err-high.ensures (some_then _ c.in_ok-low.ensures.emits (some_first _ p1))

pub returns-clause-emits : goal.returns-clause-emits
unfolding byte_of_four
returns-clause-emits g c =
    let p1 = rw c.offset.ensures at c.in_ok-high.ensures.emits in
    let p2 = rw (c.set_wire.ensures.terms, c.offset-2.ensures, c.set_rise.ensures.terms, c.set_minus.ensures.terms)
    at c.accumulated.ensures.emits in
    then_in _ _ _ _ _ c.in_ok-low.ensures.emits (then_in _ _ _ _ _ p1 p2)
