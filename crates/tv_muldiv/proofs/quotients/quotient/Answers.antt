use Rattle.tv_core.proofs.Common.{all_then, some_then, some_first, refused_wires, all_last, refl, emits_as, arith}
use Rattle.tv_muldiv.specs.Quotient.{quotient_of}
use Rattle.tv_muldiv.proofs.quotients.quotient.Goals as goal

pub returns-in_err-made : goal.returns-in_err-made
unfolding quotient_of
returns-in_err-made g c =
    refused_wires _ _ _ _ c.from_residual.ensures (some_first _ c.in_err-made.ensures.emits)

pub returns-in_err-division : goal.returns-in_err-division
unfolding quotient_of
returns-in_err-division g c =
    refused_wires _ _ _ _ c.from_residual-in_err-division.ensures (some_then _ c.in_ok-made.ensures.emits (some_first _ c.in_err-division.ensures.emits))

pub returns-in_err-remainder_below : goal.returns-in_err-remainder_below
unfolding quotient_of
returns-in_err-remainder_below g c =
    refused_wires _ _ _ _ c.from_residual-in_err-remainder_below.ensures (some_then _ c.in_ok-made.ensures.emits (some_then _ c.in_ok-division.ensures.emits
    (some_first _ c.in_err-remainder_below.ensures.emits)))

pub returns-clause-emits : goal.returns-clause-emits
unfolding quotient_of
returns-clause-emits g c =
    emits_as (omega arith) (omega arith) (all_then _ c.in_ok-made.ensures.emits (all_then _ c.in_ok-division.ensures.emits
    (all_last _ c.in_ok-remainder_below.ensures.emits refl)))
