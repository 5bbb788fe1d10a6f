use Rattle.tv_core.proofs.Common.{all_then, some_then, some_first, refused, all_last, refl}
use Rattle.tv_inputs.specs.Tapes.{if_zero_of}
use Rattle.tv_inputs.proofs.tapes.if_zero.Goals as goal

pub returns-in_err-zero_cases-clause-emits : goal.returns-in_err-zero_cases-clause-emits
unfolding if_zero_of
returns-in_err-zero_cases-clause-emits g c =
    let cases = rw (c.plus.ensures.terms, c.plus_terms.ensures.terms, c.clear.ensures, c.neg.ensures) at c.in_err-zero_cases.ensures.emits in
    refused _ _ _ c.from_residual.ensures.1 (some_then _ c.fresh-w.ensures.emits (some_first _ cases))

pub returns-clause-emits : goal.returns-clause-emits
unfolding if_zero_of
returns-clause-emits g c =
    let cases = rw (c.plus.ensures.terms, c.plus_terms.ensures.terms, c.clear.ensures, c.neg.ensures) at c.in_ok-zero_cases.ensures.emits in
    all_then _ c.fresh-w.ensures.emits (all_last _ cases refl)
