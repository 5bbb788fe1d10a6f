use Rattle.tv_core.proofs.Common.{arith, refused, all_then, some_then, some_first, all_last, refl}
use Rattle.tv_bits.specs.Times.{times_of}
use Rattle.tv_bits.proofs.products.times_by.Goals as goal

pub returns-in_err-put-clause-emits : goal.returns-in_err-put-clause-emits
unfolding times_of
returns-in_err-put-clause-emits g c =
    let product = rw c.set_wire.ensures.terms at c.in_err-put.ensures.emits in
    refused _ _ _ c.from_residual.ensures.1 (some_then _ c.fresh-w.ensures.emits (some_first _ product))

pub returns-clause-emits : goal.returns-clause-emits
unfolding times_of
returns-clause-emits g c =
    let product = rw c.set_wire.ensures.terms at c.in_ok-put.ensures.emits in
    all_then _ c.fresh-w.ensures.emits (all_last _ product refl)

pub put-requires : goal.put-requires
put-requires g c =
    let made = c.fresh-w.ensures.emits.grows in
    record {
      whole = made.whole;
      room = omega (arith, c.requires.room.constraints, made.constraints);
      a_made = omega (arith, c.requires.x_made, made.wires);
      b_made = omega (arith, c.requires.y_made, made.wires);
      c_made = omega (arith, c.set_wire.ensures.top, c.fresh-w.ensures.next, made.wires);
    }
