use Rattle.tv_core.proofs.Common.{◌≡◌, ℕ, ◌*◌, ap, arith, refused, top, Combination}
use Rattle.std.proofs.Common.{mul-zero}
use Rattle.tv_bits.proofs.Growing.{room_after}
use Rattle.tv_bits.proofs.ProductChain.{no_product, one_product, product_refused, last_product}
use Rattle.tv_bits.specs.Prefixes.{prefix_less, prefix_difference_of}
use Rattle.tv_bits.proofs.prefixes.prefix_difference_by.Goals as goal

pub loop-i-init : goal.loop-i-init
loop-i-init g c =
    let factor : ℕ → Combination = λ j. prefix_less c.args.x.now c.args.y.now c.args.d.now (c.args.chunk * j) in
    let place : c.args.chunk * 0 ≡ 0 = mul-zero c.args.chunk in
    let first : c.set_prefix_less.new.lc ≡ factor 0 = rw place c.set_prefix_less.ensures.terms in
    record {
      emits = no_product factor c.requires.room.whole first;
      made = omega (arith, c.set_prefix_less.ensures.top, c.requires);
    }

pub loop-i-preserved : goal.loop-i-preserved
loop-i-preserved g c =
    let factor : ℕ → Combination = λ j. prefix_less c.args.x.now c.args.y.now c.args.d.now (c.args.chunk * j) in
    let grown = c.in_ok-w.ensures.emits.grows in
    let product = rw c.set_prefix_less-in-loop-i.ensures.terms at c.in_ok-w.ensures.emits in
    let made = c.set_wire.ensures.terms in
    record {
      emits = one_product factor _ c.loop-i.invariant.emits product made;
      made = omega (arith, ap top made, c.in_ok-w.ensures.below);
    }

pub returns-in_err-w : goal.returns-in_err-w
unfolding prefix_difference_of
returns-in_err-w g c = record {
  emits =
      let factor : ℕ → Combination = λ j. prefix_less c.args.x.now c.args.y.now c.args.d.now (c.args.chunk * j) in
      let product = rw c.set_prefix_less-in-loop-i.ensures.terms at c.in_err-w.ensures.emits in
      refused _ _ _ c.from_residual.ensures.1 (product_refused factor _ c.loop-i.invariant.emits c.args.count (omega arith) product);
}

pub returns : goal.returns
unfolding prefix_difference_of
returns g c = record {
  emits =
      let factor : ℕ → Combination = λ j. prefix_less c.args.x.now c.args.y.now c.args.d.now (c.args.chunk * j) in
      let last = rw (c.set_prefix_less-2.ensures.terms, c.clear.ensures) at c.put.ensures.emits in
      last_product factor _ c.loop-i.invariant.emits _ c.args.count _ (omega arith) (omega arith) (omega arith) last;
}

pub times_by-requires : goal.times_by-requires
times_by-requires g c =
    let grown = c.loop-i.invariant.emits.grows in
    record {
      room = room_after grown c.requires.room (omega arith) (omega arith);
      x_made = c.loop-i.invariant.made;
      y_made = omega (arith, c.set_prefix_less-in-loop-i.ensures.top, c.requires.made, grown.wires);
    }

pub put-requires : goal.put-requires
put-requires g c =
    let grown = c.loop-i.invariant.emits.grows in
    record {
      whole = grown.whole;
      room = omega (arith, c.requires.room.constraints, grown.constraints);
      a_made = c.loop-i.invariant.made;
      b_made = omega (arith, c.set_prefix_less-2.ensures.top, c.requires.made, grown.wires);
      c_made = rw c.clear.ensures (omega arith);
    }
