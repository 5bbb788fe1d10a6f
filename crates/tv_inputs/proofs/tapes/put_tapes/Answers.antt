use Rattle.tv_core.proofs.Common.{some_then, some_first, refused_wires, then_in}
use Rattle.tv_inputs.specs.Tapes.{tapes_of}
use Rattle.tv_inputs.proofs.tapes.put_tapes.Goals as goal

pub returns-in_err-reads : goal.returns-in_err-reads
unfolding tapes_of
returns-in_err-reads g c = refused_wires _ _ _ _ c.from_residual.ensures (some_first _ c.in_err-reads.ensures.emits)

pub returns-in_err-aux : goal.returns-in_err-aux
unfolding tapes_of
returns-in_err-aux g c =
    let p1 = rw (c.set_wire.ensures.terms, c.set_wire-2.ensures.terms) at c.in_err-aux.ensures.emits in
    refused_wires _ _ _ _ c.from_residual-in_err-aux.ensures (some_then _ c.in_ok-reads.ensures.emits (some_first _ p1))

pub returns-in_err-taken : goal.returns-in_err-taken
unfolding tapes_of
returns-in_err-taken g c =
    let p1 = rw (c.set_wire.ensures.terms, c.set_wire-2.ensures.terms) at c.in_ok-aux.ensures.emits in
    refused_wires _ _ _ _ c.from_residual-in_err-taken.ensures (some_then _ c.in_ok-reads.ensures.emits (some_then _ p1
    (some_first _ c.in_err-taken.ensures.emits)))

pub returns-clause-emits : goal.returns-clause-emits
unfolding tapes_of
returns-clause-emits g c =
    let p1 = rw (c.set_wire.ensures.terms, c.set_wire-2.ensures.terms) at c.in_ok-aux.ensures.emits in
    then_in _ _ _ _ _ c.in_ok-reads.ensures.emits (then_in _ _ _ _ _ p1
    (then_in _ _ _ _ _ c.in_ok-taken.ensures.emits c.auxiliary.ensures.emits))
