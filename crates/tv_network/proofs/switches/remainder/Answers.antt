use Rattle.tv_core.proofs.Common.{arith, all_then, some_then, some_first, refused_whole, all_last, refl}
use Rattle.tv_core.proofs.Unique.{normal-front}
use Rattle.tv_network.specs.Switches.{remainder_of}
use Rattle.tv_network.proofs.switches.remainder.Goals as goal

pub returns-in_err-put : goal.returns-in_err-put
unfolding remainder_of
returns-in_err-put g c =
    let first = rw (c.terms.ensures.terms, c.clear.ensures) at c.add_terms.ensures.terms in
    let sum = rw (c.terms-2.ensures.terms, first, normal-front c.args.x.now c.args.y.now) at c.add_terms-2.ensures.terms in
    let put = rw (sum, c.set_wire.ensures.terms, c.plus.ensures.terms, c.set_wire-2.ensures.terms) at c.in_err-put.ensures.emits in
    refused_whole _ _ _ c.from_residual.ensures (some_then _ c.fresh-q.ensures.emits (some_first _ put))

pub returns : goal.returns
unfolding remainder_of
returns g c =
    let first = rw (c.terms.ensures.terms, c.clear.ensures) at c.add_terms.ensures.terms in
    let sum = rw (c.terms-2.ensures.terms, first, normal-front c.args.x.now c.args.y.now) at c.add_terms-2.ensures.terms in
    let put = rw (sum, c.set_wire.ensures.terms, c.plus.ensures.terms, c.set_wire-2.ensures.terms) at c.in_ok-put.ensures.emits in
    record { emits = all_then _ c.fresh-q.ensures.emits (all_last _ put refl) }

pub put-requires : goal.put-requires
put-requires g c =
    let made = c.fresh-q.ensures.emits.grows in
    let first = rw (c.terms.ensures.terms, c.clear.ensures) at c.add_terms.ensures.top in
    let both = rw c.terms-2.ensures.terms at c.add_terms-2.ensures.top in
    record {
      whole = made.whole;
      room = omega (arith, c.requires.room.constraints, made.constraints);
      a_made = omega (arith, first, both, c.requires.x_made, c.requires.y_made, made.wires);
      b_made = omega (arith, c.set_wire.ensures.top, c.requires.room.constant, made.wires);
      c_made = omega (arith, c.plus.ensures.top, c.set_wire-2.ensures.top, c.requires.p_made, c.fresh-q.ensures.next, made.wires);
    }
