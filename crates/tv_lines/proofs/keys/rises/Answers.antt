use Rattle.tv_core.proofs.Common.{ap, arith, refused_whole, top}
use Rattle.tv_bits.proofs.ProductChain.{no_product, one_product, product_refused, last_product}
use Rattle.tv_core.proofs.Rooms.{room_left}
use Rattle.tv_lines.specs.SortedPair.{rises_of}
use Rattle.tv_lines.proofs.keys.rises.Goals as goal

pub loop-i-init : goal.loop-i-init
loop-i-init g c = record {
  emits = no_product _ c.requires.room.whole c.set_key_factor.ensures.terms;
  made = omega (arith, c.set_key_factor.ensures.top, c.requires);
}

pub loop-i-preserved : goal.loop-i-preserved
loop-i-preserved g c =
    let grown = c.in_ok-w.ensures.emits.grows in
    let product = rw c.set_key_factor-in-loop-i.ensures.terms at c.in_ok-w.ensures.emits in
    let made = c.set_wire.ensures.terms in
    record {
      emits = one_product _ _ c.loop-i.invariant.emits product made;
      made = omega (arith, ap top made, c.in_ok-w.ensures.below);
    }

pub returns-in_err-w : goal.returns-in_err-w
unfolding rises_of
returns-in_err-w g c =
    let product = rw c.set_key_factor-in-loop-i.ensures.terms at c.in_err-w.ensures.emits in
    refused_whole _ _ _ c.from_residual.ensures (product_refused _ _ c.loop-i.invariant.emits 5 (omega arith) product)

pub returns : goal.returns
unfolding rises_of
returns g c =
    let last = rw (c.set_key_factor-2.ensures.terms, c.clear.ensures) at c.put.ensures.emits in
    record { emits = last_product _ _ c.loop-i.invariant.emits _ 5 _ (omega arith) (omega arith) (omega arith) last }

pub times_by-requires : goal.times_by-requires
times_by-requires g c =
    let grown = c.loop-i.invariant.emits.grows in
    record {
      room = room_left c.requires.room grown (omega arith);
      x_made = c.loop-i.invariant.made;
      y_made = omega (arith, c.set_key_factor-in-loop-i.ensures.top, c.requires, grown.wires);
    }

pub put-requires : goal.put-requires
put-requires g c =
    let grown = c.loop-i.invariant.emits.grows in
    record {
      whole = grown.whole;
      room = omega (arith, c.requires.room.constraints, grown.constraints);
      a_made = c.loop-i.invariant.made;
      b_made = omega (arith, c.set_key_factor-2.ensures.top, c.requires, grown.wires);
      c_made = rw c.clear.ensures (omega arith);
    }
