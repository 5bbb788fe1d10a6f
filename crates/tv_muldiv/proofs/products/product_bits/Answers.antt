use Rattle.tv_core.proofs.Common.{arith, all_then, some_then, some_first, refused_wires, all_last, refl, emits_as}
use Rattle.tv_muldiv.specs.Product.{product_bits_of}
use Rattle.tv_muldiv.proofs.products.product_bits.Goals as goal

pub returns-in_err-new_bits_by : goal.returns-in_err-new_bits_by
unfolding product_bits_of
returns-in_err-new_bits_by g c =
    refused_wires _ _ _ _ c.from_residual.ensures (some_then _ c.fresh-first.ensures.emits (some_first _ c.in_err-new_bits_by.ensures.emits))

pub returns-in_err-put : goal.returns-in_err-put
unfolding product_bits_of
returns-in_err-put g c =
    let lowest = rw (c.set_wire.ensures.terms, c.set_wire-2.ensures.terms, c.set_wire-3.ensures.terms) at c.in_err-put.ensures.emits in
    refused_wires _ _ _ _ c.from_residual-in_err-put.ensures (some_then _ c.fresh-first.ensures.emits (some_then _ c.in_ok-new_bits_by.ensures.emits
    (some_first _ lowest)))

pub returns-in_err-put-2 : goal.returns-in_err-put-2
unfolding product_bits_of
returns-in_err-put-2 g c =
    let lowest = rw (c.set_wire.ensures.terms, c.set_wire-2.ensures.terms, c.set_wire-3.ensures.terms) at c.in_ok-put.ensures.emits in
    let whole = rw (
      c.set_number.ensures.terms,
      c.set_number-2.ensures.terms,
      c.set_long_number.ensures.terms,
      c.requires.x_word.size,
      c.requires.y_word.size,
    ) at c.in_err-put-2.ensures.emits in
    refused_wires _ _ _ _ c.from_residual-in_err-put-2.ensures (some_then _ c.fresh-first.ensures.emits (some_then _ c.in_ok-new_bits_by.ensures.emits
    (some_then _ lowest (some_first _ whole))))

pub returns-clause-emits : goal.returns-clause-emits
unfolding product_bits_of
returns-clause-emits g c =
    let lowest = rw (c.set_wire.ensures.terms, c.set_wire-2.ensures.terms, c.set_wire-3.ensures.terms) at c.in_ok-put.ensures.emits in
    let whole = rw (
      c.set_number.ensures.terms,
      c.set_number-2.ensures.terms,
      c.set_long_number.ensures.terms,
      c.requires.x_word.size,
      c.requires.y_word.size,
    ) at c.in_ok-put-2.ensures.emits in
    emits_as (omega arith) (omega arith) (all_then _ c.fresh-first.ensures.emits (all_then _ c.in_ok-new_bits_by.ensures.emits (all_then _ lowest
    (all_last _ whole refl))))

pub put-requires : goal.put-requires
put-requires g c =
    let first = c.fresh-first.ensures in
    let grown = c.in_ok-new_bits_by.ensures.emits.grows in
    record {
      whole = grown.whole;
      room = omega (arith, c.requires.room.constraints, first.emits.grows.constraints, grown.constraints);
      a_made = omega (arith, c.set_wire.ensures.top, c.requires.x_word.below, c.requires.width, first.emits.grows.wires, grown.wires);
      b_made = omega (arith, c.set_wire-2.ensures.top, c.requires.y_word.below, c.requires.width, first.emits.grows.wires, grown.wires);
      c_made = omega (arith, c.set_wire-3.ensures.top, first.next, first.emits.grows.wires, grown.wires);
    }

pub put-requires-2 : goal.put-requires-2
put-requires-2 g c =
    let first = c.fresh-first.ensures in
    let grown = c.in_ok-new_bits_by.ensures.emits.grows in
    let put = c.in_ok-put.ensures.emits.grows in
    record {
      whole = put.whole;
      room = omega (arith, c.requires.room.constraints, first.emits.grows.constraints, grown.constraints, put.constraints, c.requires.width);
      a_made = omega (arith, c.set_number.ensures.top, c.requires.x_word, first.emits.grows.wires, grown.wires, put.wires);
      b_made = omega (arith, c.set_number-2.ensures.top, c.requires.y_word, first.emits.grows.wires, grown.wires, put.wires);
      c_made = omega (arith, c.set_long_number.ensures.top, c.requires.width, first.next, first.emits.grows.wires, grown.wires, put.wires);
    }
