use Rattle.tv_core.proofs.Common.{◌≡◌, ℕ, ◌-◌, ◌*◌, ◌%◌, ◌<◌, arith, then_in}
use Rattle.tv_core.specs.declared.field.TheConstants.{P}
use Rattle.tv_bits.specs.OneHot.{mark_of}
use Rattle.tv_bits.proofs.rows.mark.Goals as goal

-- a number negated is the number times -1
negated : (i : ℕ) → i < P → (P - i) % P ≡ (P - 1) * (i % P) % P
negated i below = omega arith

pub returns : goal.returns
unfolding mark_of
returns g c = record {
  emits =
      let minus = negated c.args.i (omega arith) in
      let zero = rw (
        c.set_wire.ensures.terms,
        c.plus.ensures.terms,
        c.set_number.ensures.terms,
        c.clear.ensures,
        c.neg.ensures,
        c.from.ensures,
        minus,
      ) at c.put.ensures.emits in
      then_in _ _ _ _ _ c.fresh-w.ensures.emits zero;
}

pub put-requires : goal.put-requires
put-requires g c =
    let made = c.fresh-w.ensures.emits.grows in
    record {
      whole = made.whole;
      room = omega (arith, c.requires.room.constraints, made.constraints);
      a_made = omega (arith, c.set_wire.ensures.top, c.fresh-w.ensures.next, made.wires);
      b_made = omega (arith, c.plus.ensures.top, c.set_number.ensures.top, c.requires.x_made, c.requires.room.constant, made.wires);
      c_made = rw c.clear.ensures (omega arith);
    }
