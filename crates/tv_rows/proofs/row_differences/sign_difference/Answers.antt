use Rattle.tv_core.proofs.Common.{refused_wires, all_then, some_then, some_first, all_last, refl}
use Rattle.tv_bits.specs.Times.{times_of}
use Rattle.tv_rows.proofs.row_differences.sign_difference.Goals as goal

pub returns-in_err-put : goal.returns-in_err-put
unfolding times_of
returns-in_err-put g c =
    let product = rw (c.set_wire.ensures.terms, c.plus-2.ensures.terms, c.plus.ensures.terms, c.clear.ensures, c.neg.ensures) at c.in_err-put.ensures.emits in
    refused_wires _ _ _ _ c.from_residual.ensures (some_then _ c.fresh-signs.ensures.emits (some_first _ product))

pub returns-clause-emits : goal.returns-clause-emits
unfolding times_of
returns-clause-emits g c =
    let product = rw (c.set_wire.ensures.terms, c.plus-2.ensures.terms, c.plus.ensures.terms, c.clear.ensures, c.neg.ensures) at c.in_ok-put.ensures.emits in
    all_then _ c.fresh-signs.ensures.emits (all_last _ product refl)
