use Rattle.tv_core.proofs.Common.{all_then, some_then, some_first, refused_wires, all_last, refl}
use Rattle.tv_inputs.specs.Tapes.{primary_of}
use Rattle.tv_inputs.proofs.tapes.primary.Goals as goal

pub returns-in_err-zero_cases : goal.returns-in_err-zero_cases
unfolding primary_of
returns-in_err-zero_cases g c =
    let cases = rw (c.set_left.ensures.terms, c.set_rise.ensures.terms, c.neg-minus.ensures) at c.in_err-zero_cases.ensures.emits in
    refused_wires _ _ _ _ c.from_residual.ensures (some_then _ c.fresh-taken.ensures.emits (some_first _ cases))

pub returns-clause-emits : goal.returns-clause-emits
unfolding primary_of
returns-clause-emits g c =
    let cases = rw (c.set_left.ensures.terms, c.set_rise.ensures.terms, c.neg-minus.ensures) at c.in_ok-zero_cases.ensures.emits in
    all_then _ c.fresh-taken.ensures.emits (all_last _ cases refl)
