use Rattle.tv_core.proofs.Common.{arith, refused, all_then, some_then, some_first, all_last, refl}
use Rattle.tv_bits.proofs.Growing.{kept, made_by}
use Rattle.tv_bits.specs.Select.{pick_of}
use Rattle.tv_bits.proofs.selection.pick_by.Goals as goal

pub returns-in_err-put-clause-emits : goal.returns-in_err-put-clause-emits
unfolding pick_of
returns-in_err-put-clause-emits g c =
    let choice = rw (c.set_terms_less.ensures.terms, c.set_wire_less.ensures.terms) at c.in_err-put.ensures.emits in
    refused _ _ _ c.from_residual.ensures.1 (some_then _ c.fresh-w.ensures.emits (some_first _ choice))

pub returns-clause-emits : goal.returns-clause-emits
unfolding pick_of
returns-clause-emits g c =
    let choice = rw (c.set_terms_less.ensures.terms, c.set_wire_less.ensures.terms) at c.in_ok-put.ensures.emits in
    all_then _ c.fresh-w.ensures.emits (all_last _ choice refl)

pub put-requires : goal.put-requires
put-requires g c =
    let made = c.fresh-w.ensures.emits.grows in
    record {
      whole = made.whole;
      room = omega (arith, c.requires.room.constraints, made.constraints);
      a_made = omega (arith, c.requires.b_made, made.wires);
      b_made = omega (arith, c.set_terms_less.ensures.top, c.requires.made, made.wires);
      c_made = omega (arith, c.set_wire_less.ensures.top, c.requires.made, c.fresh-w.ensures.next, made.wires);
    }

pub returns-clause-below : goal.returns-clause-below
returns-clause-below g c = kept c.in_ok-put.ensures.emits.grows (made_by c.fresh-w.ensures.emits.grows c.fresh-w.ensures.next)
