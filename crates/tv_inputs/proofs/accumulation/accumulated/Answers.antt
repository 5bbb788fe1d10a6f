use Rattle.tv_core.proofs.Common.{all_then, some_then, some_first, refused, all_last, refl}
use Rattle.tv_inputs.specs.Accumulation.{closed_of}
use Rattle.tv_inputs.proofs.accumulation.accumulated.Goals as goal

pub returns-in_err-put-clause-emits : goal.returns-in_err-put-clause-emits
unfolding closed_of
returns-in_err-put-clause-emits g c =
    let closed = rw c.plus.ensures.terms at c.in_err-put.ensures.emits in
    refused _ _ _ c.from_residual.ensures.1 (some_then _ c.fresh-sum.ensures.emits (some_first _ closed))

pub returns-clause-emits : goal.returns-clause-emits
unfolding closed_of
returns-clause-emits g c =
    let closed = rw c.plus.ensures.terms at c.in_ok-put.ensures.emits in
    all_then _ c.fresh-sum.ensures.emits (all_last _ closed refl)
