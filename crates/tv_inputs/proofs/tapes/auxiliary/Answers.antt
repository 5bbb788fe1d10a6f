use Rattle.tv_core.proofs.Common.{all_then, some_then, some_first, refused_wires, all_last, refl}
use Rattle.tv_inputs.specs.Tapes.{auxiliary_of}
use Rattle.tv_inputs.proofs.tapes.auxiliary.Goals as goal

pub returns-in_err-put_asked : goal.returns-in_err-put_asked
unfolding auxiliary_of
returns-in_err-put_asked g c =
    refused_wires _ _ _ _ c.from_residual.ensures (some_then _ c.fresh-takes.ensures.emits (some_then _ c.fresh-ended.ensures.emits
    (some_first _ c.in_err-put_asked.ensures.emits)))

pub returns-in_err-put : goal.returns-in_err-put
unfolding auxiliary_of
returns-in_err-put g c =
    let second = rw (c.set_wire.ensures.terms, c.set_rise.ensures.terms, c.clear.ensures) at c.in_err-put.ensures.emits in
    refused_wires _ _ _ _ c.from_residual-in_err-put.ensures (some_then _ c.fresh-takes.ensures.emits (some_then _ c.fresh-ended.ensures.emits
    (some_then _ c.in_ok-put_asked.ensures.emits (some_first _ second))))

pub returns-clause-emits : goal.returns-clause-emits
unfolding auxiliary_of
returns-clause-emits g c =
    let second = rw (c.set_wire.ensures.terms, c.set_rise.ensures.terms, c.clear.ensures) at c.in_ok-put.ensures.emits in
    all_then _ c.fresh-takes.ensures.emits (all_then _ c.fresh-ended.ensures.emits (all_then _ c.in_ok-put_asked.ensures.emits (all_last _ second refl)))
