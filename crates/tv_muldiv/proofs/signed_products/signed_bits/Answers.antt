use Rattle.tv_core.proofs.Common.{all_then, some_then, some_first, refused_wires, all_last, refl, emits_as, arith}
use Rattle.tv_muldiv.specs.SignedHigh.{signed_bits_of}
use Rattle.tv_muldiv.proofs.signed_products.signed_bits.Goals as goal

pub returns-in_err-made : goal.returns-in_err-made
unfolding signed_bits_of
returns-in_err-made g c =
    refused_wires _ _ _ _ c.from_residual.ensures (some_first _ c.in_err-made.ensures.emits)

pub returns-in_err-put : goal.returns-in_err-put
unfolding signed_bits_of
returns-in_err-put g c =
    let product = rw (
      c.set_signed_number.ensures.terms,
      c.set_signed_number-2.ensures.terms,
      c.set_signed_number-3.ensures.terms,
    ) at c.in_err-put.ensures.emits in
    refused_wires _ _ _ _ c.from_residual-in_err-put.ensures (some_then _ c.in_ok-made.ensures.emits (some_first _ product))

pub returns-clause-emits : goal.returns-clause-emits
unfolding signed_bits_of
returns-clause-emits g c =
    let product = rw (
      c.set_signed_number.ensures.terms,
      c.set_signed_number-2.ensures.terms,
      c.set_signed_number-3.ensures.terms,
    ) at c.in_ok-put.ensures.emits in
    emits_as (omega arith) (omega arith) (all_then _ c.in_ok-made.ensures.emits (all_last _ product refl))
