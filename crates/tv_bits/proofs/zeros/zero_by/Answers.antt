use Rattle.tv_core.proofs.Common.{refused, all_then, some_then, some_first, all_last, refl}
use Rattle.tv_bits.specs.Zero.{zero_of}
use Rattle.tv_bits.proofs.zeros.zero_by.Goals as goal

pub returns-clause-emits : goal.returns-clause-emits
unfolding zero_of
returns-clause-emits g c =
    let cases = rw c.set_difference.ensures.terms at c.in_ok-zero_cases.ensures.emits in
    all_then _ c.fresh-flag.ensures.emits (all_last _ cases refl)

pub returns-in_err-zero_cases-clause-emits : goal.returns-in_err-zero_cases-clause-emits
unfolding zero_of
returns-in_err-zero_cases-clause-emits g c =
    let cases = rw c.set_difference.ensures.terms at c.in_err-zero_cases.ensures.emits in
    refused _ _ _ c.from_residual.ensures.1 (some_then _ c.fresh-flag.ensures.emits (some_first _ cases))
