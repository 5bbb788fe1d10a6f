use Rattle.tv_core.proofs.Common.{arith, ◌++◌, ◌∙◌, ap, ap₂, scaled}
use Rattle.tv_bits.specs.Gate.{gated_of}
use Rattle.tv_bits.proofs.gates.gated.Goals as goal

pub returns : goal.returns
unfolding gated_of
returns g c = record {
  emits =
      let first = c.plus_terms.ensures.terms ∙ ap (λ l. l ++ c.args.x.now) c.clear.ensures in
      let both = c.plus_scaled.ensures.terms ∙ ap₂ (λ l k. l ++ scaled k c.args.y.now) first c.neg.ensures in
      rw (both, c.clear-2.ensures) at c.put.ensures.emits;
}

pub put-requires : goal.put-requires
put-requires g c =
    let first = rw c.clear.ensures at c.plus_terms.ensures.top in
    record {
      whole = c.requires.room.whole;
      room = omega (arith, c.requires.room.constraints);
      a_made = c.requires.gate_made;
      b_made = omega (arith, c.plus_scaled.ensures.top, first, c.requires.x_made, c.requires.y_made);
      c_made = rw c.clear-2.ensures (omega arith);
    }
