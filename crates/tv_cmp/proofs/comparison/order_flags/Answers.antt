use Rattle.tv_core.proofs.Common.{some_then, some_first, refused_whole, then_in}
use Rattle.tv_cmp.specs.Compare.{order_flags_of}
use Rattle.tv_cmp.proofs.comparison.order_flags.Goals as goal

pub returns-in_err-bit_by : goal.returns-in_err-bit_by
unfolding order_flags_of
returns-in_err-bit_by g c =
    refused_whole _ _ _ c.from_residual.ensures (some_first _ c.in_err-bit_by.ensures.emits)

pub returns-in_err-put : goal.returns-in_err-put
unfolding order_flags_of
returns-in_err-put g c =
    let same = rw (
      c.plus_to.ensures.terms,
      c.neg.ensures,
      c.set_number.ensures.terms,
      c.set_wire.ensures.terms,
      c.clear.ensures,
      c.requires.x_word.size,
      c.requires.y_word.size,
    ) at c.in_err-put.ensures.emits in
    refused_whole _ _ _ c.from_residual-in_err-put.ensures (some_then _ c.in_ok-bit_by.ensures.emits (some_first _ same))

pub returns : goal.returns
unfolding order_flags_of
returns g c =
    let same = rw (
      c.plus_to.ensures.terms,
      c.neg.ensures,
      c.set_number.ensures.terms,
      c.set_wire.ensures.terms,
      c.clear.ensures,
      c.requires.x_word.size,
      c.requires.y_word.size,
    ) at c.in_ok-put.ensures.emits in
    let one = rw (c.set_wire-2.ensures.terms, c.set_wire.ensures.terms, c.clear.ensures) at c.put-2.ensures.emits in
    record { emits = then_in _ _ _ _ _ c.in_ok-bit_by.ensures.emits (then_in _ _ _ _ _ same one) }
