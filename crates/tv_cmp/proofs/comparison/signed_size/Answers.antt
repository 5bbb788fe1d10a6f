use Rattle.tv_core.proofs.Common.{some_first, refused_wires, then_in}
use Rattle.tv_cmp.specs.Compare.{signed_size_of}
use Rattle.tv_cmp.proofs.comparison.signed_size.Goals as goal

pub returns-in_err-size : goal.returns-in_err-size
unfolding signed_size_of
returns-in_err-size g c =
    refused_wires _ _ _ _ c.from_residual.ensures (some_first _ c.in_err-size.ensures.emits)

pub returns-clause-emits : goal.returns-clause-emits
unfolding signed_size_of
returns-clause-emits g c =
    let product = rw (c.set_sign.ensures, c.plus.ensures.terms, c.set_number.ensures.terms) at c.times_by.ensures.emits in
    then_in _ _ _ _ _ c.in_ok-size.ensures.emits product
