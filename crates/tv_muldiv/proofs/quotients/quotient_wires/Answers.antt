use Rattle.tv_core.proofs.Common.{all_then, some_then, some_first, refused_wires, all_last, refl, emits_as, arith}
use Rattle.tv_muldiv.specs.Quotient.{quotient_wires_of}
use Rattle.tv_muldiv.proofs.quotients.quotient_wires.Goals as goal

pub returns-in_err-first : goal.returns-in_err-first
unfolding quotient_wires_of
returns-in_err-first g c =
    refused_wires _ _ _ _ c.from_residual.ensures (some_first _ c.in_err-first.ensures.emits)

pub returns-in_err-put : goal.returns-in_err-put
unfolding quotient_wires_of
returns-in_err-put g c =
    let none = rw (c.set_wire.ensures.terms, c.offset-by_zero.ensures, c.set_number.ensures.terms, c.clear.ensures, c.requires.y_word.size)
    at c.in_err-put.ensures.emits in
    refused_wires _ _ _ _ c.from_residual-in_err-put.ensures (some_then _ c.in_ok-first.ensures.emits (some_first _ none))

pub returns-clause-emits : goal.returns-clause-emits
unfolding quotient_wires_of
returns-clause-emits g c =
    let none = rw (c.set_wire.ensures.terms, c.offset-by_zero.ensures, c.set_number.ensures.terms, c.clear.ensures, c.requires.y_word.size)
    at c.in_ok-put.ensures.emits in
    rw (c.offset-rem.ensures, c.offset-by_zero.ensures) (emits_as (omega arith) (omega arith) (all_then _ c.in_ok-first.ensures.emits (all_last _ none refl)))
