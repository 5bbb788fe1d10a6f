use Rattle.tv_core.proofs.Common.{arith, refused, all_then, some_then, some_first, all_last, refl, emits_as}
use Rattle.tv_bits.specs.Bits.{bits_of}
use Rattle.tv_bits.proofs.decomposition.bits_by.Goals as goal

pub returns-in_err-made-clause-emits : goal.returns-in_err-made-clause-emits
unfolding bits_of
returns-in_err-made-clause-emits g c =
    refused _ _ _ c.from_residual.ensures.1 (some_first _ c.in_err-made.ensures.emits)

pub returns-in_err-put-clause-emits : goal.returns-in_err-put-clause-emits
unfolding bits_of
returns-in_err-put-clause-emits g c =
    let sum = rw (c.set_number.ensures.terms, c.set_wire.ensures.terms) at c.in_err-put.ensures.emits in
    refused _ _ _ c.from_residual-in_err-put.ensures.1 (some_then _ c.in_ok-made.ensures.emits (some_first _ sum))

pub returns-clause-emits : goal.returns-clause-emits
unfolding bits_of
returns-clause-emits g c =
    let sum = rw (c.set_number.ensures.terms, c.set_wire.ensures.terms) at c.in_ok-put.ensures.emits in
    emits_as (omega arith) (omega arith) (all_then _ c.in_ok-made.ensures.emits (all_last _ sum refl))

pub put-requires : goal.put-requires
put-requires g c =
    let made = c.in_ok-made.ensures in
    record {
      whole = made.emits.grows.whole;
      room = omega (arith, c.requires.room.constraints, made.emits.grows.constraints);
      a_made = omega (arith, c.set_number.ensures.top, made.below);
      b_made = omega (arith, c.set_wire.ensures.top, c.requires.room.constant, made.emits.grows.wires);
      c_made = omega (arith, c.requires.x_made, made.emits.grows.wires);
    }
