use Rattle.tv_core.proofs.Common.{refl, refused_wires, all_then, some_then, some_first, all_last}
use Rattle.tv_bits.proofs.Growing.{fewer, within, kept, both, left, top_wire}
use Rattle.tv_regs.specs.ProductPlus.{product_plus_of}
use Rattle.tv_regs.specs.Triple.{pairs_of, sums_of}
use Rattle.tv_regs.proofs.Rooms.{top_number, top_more, short_number, short_more}
use Rattle.tv_regs.proofs.triple.sums.Goals as goal

pub returns-in_err-sum : goal.returns-in_err-sum
unfolding sums_of pairs_of product_plus_of
returns-in_err-sum g c =
    let sum = rw (c.plus-2.ensures.terms, c.plus.ensures.terms, c.set_number.ensures.terms) at c.in_err-sum.ensures.emits in
    refused_wires _ _ _ _ c.from_residual.ensures (some_first _ sum)

pub returns-in_err-pair : goal.returns-in_err-pair
unfolding sums_of pairs_of product_plus_of
returns-in_err-pair g c =
    let sum = rw (c.plus-2.ensures.terms, c.plus.ensures.terms, c.set_number.ensures.terms) at c.in_ok-sum.ensures.emits in
    let pair = rw (c.set_wire.ensures.terms, c.set_number-2.ensures.terms) at c.in_err-pair.ensures.emits in
    refused_wires _ _ _ _ c.from_residual-in_err-pair.ensures (some_then _ sum (some_first _ pair))

pub returns-in_err-pairs : goal.returns-in_err-pairs
unfolding sums_of pairs_of product_plus_of
returns-in_err-pairs g c =
    let sum = rw (c.plus-2.ensures.terms, c.plus.ensures.terms, c.set_number.ensures.terms) at c.in_ok-sum.ensures.emits in
    let pair = rw (c.set_wire.ensures.terms, c.set_number-2.ensures.terms) at c.in_ok-pair.ensures.emits in
    let pairs = rw (c.set_wire-2.ensures.terms, c.plus-3.ensures.terms, c.in_ok-pair.ensures.b, c.set_number-2.ensures.terms) at c.in_err-pairs.ensures.emits in
    refused_wires _ _ _ _ c.from_residual-in_err-pairs.ensures (some_then _ sum (some_then _ pair (some_first _ pairs)))

pub returns-in_err-product : goal.returns-in_err-product
unfolding sums_of pairs_of product_plus_of
returns-in_err-product g c =
    let sum = rw (c.plus-2.ensures.terms, c.plus.ensures.terms, c.set_number.ensures.terms) at c.in_ok-sum.ensures.emits in
    let pair = rw (c.set_wire.ensures.terms, c.set_number-2.ensures.terms) at c.in_ok-pair.ensures.emits in
    let pairs = rw (c.set_wire-2.ensures.terms, c.plus-3.ensures.terms, c.in_ok-pair.ensures.b, c.set_number-2.ensures.terms) at c.in_ok-pairs.ensures.emits in
    let product = rw (c.set_wire-3.ensures.terms, c.set_wire-4.ensures.terms) at c.in_err-product.ensures.emits in
    refused_wires _ _ _ _ c.from_residual-in_err-product.ensures (some_then _ sum (some_then _ pair (some_then _ pairs (some_first _ product))))

pub returns-clause-emits : goal.returns-clause-emits
unfolding sums_of pairs_of product_plus_of
returns-clause-emits g c =
    let sum = rw (c.plus-2.ensures.terms, c.plus.ensures.terms, c.set_number.ensures.terms) at c.in_ok-sum.ensures.emits in
    let pair = rw (c.set_wire.ensures.terms, c.set_number-2.ensures.terms) at c.in_ok-pair.ensures.emits in
    let pairs = rw (c.set_wire-2.ensures.terms, c.plus-3.ensures.terms, c.in_ok-pair.ensures.b, c.set_number-2.ensures.terms) at c.in_ok-pairs.ensures.emits in
    let product = rw (c.set_wire-3.ensures.terms, c.set_wire-4.ensures.terms) at c.in_ok-product.ensures.emits in
    all_then _ sum (all_then _ pair (all_then _ pairs (all_last _ product refl)))

pub plus-requires : goal.plus-requires
plus-requires g c = short_number c.set_number.ensures.len c.requires.named_short

pub plus-requires-2 : goal.plus-requires-2
plus-requires-2 g c = short_more c.plus.ensures.len c.set_number.ensures.len c.requires.named_short

pub kept_by-requires : goal.kept_by-requires
kept_by-requires g c =
    let r = c.requires in
    let number = top_number _ c.set_number.ensures.top r.named_short r.named_made in
    record { room = fewer r.room refl refl; x_made = top_more c.plus-2.ensures.top (top_more c.plus.ensures.top number r.dest_made) r.other_made }

pub times_by-requires : goal.times_by-requires
times_by-requires g c =
    let r = c.requires in
    let g1 = c.in_ok-sum.ensures.emits.grows in
    record {
      room = left g1 r.room refl refl;
      x_made = top_wire c.set_wire.ensures.top (kept g1 r.other_made);
      y_made = top_number _ c.set_number-2.ensures.top r.named_short (within g1 r.named_made);
    }

pub plus-requires-3 : goal.plus-requires-3
plus-requires-3 g c = rw c.in_ok-pair.ensures.b (short_number c.set_number-2.ensures.len c.requires.named_short)

pub product_plus-requires : goal.product_plus-requires
product_plus-requires g c =
    let r = c.requires in
    let g2 = both c.in_ok-sum.ensures.emits.grows c.in_ok-pair.ensures.emits.grows in
    let number = top_number _ c.set_number-2.ensures.top r.named_short (within g2 r.named_made) in
    record {
      room = left g2 r.room refl refl;
      x_made = top_wire c.set_wire-2.ensures.top (kept g2 r.dest_made);
      y_made = top_more c.plus-3.ensures.top (rw c.in_ok-pair.ensures.b number) (kept g2 r.other_made);
      old_made = c.in_ok-pair.ensures.below;
    }

pub times_by-requires-2 : goal.times_by-requires-2
times_by-requires-2 g c =
    let pairs = c.in_ok-pairs.ensures.emits.grows in
    let g3 = both (both c.in_ok-sum.ensures.emits.grows c.in_ok-pair.ensures.emits.grows) pairs in
    record {
      room = left g3 c.requires.room refl refl;
      x_made = top_wire c.set_wire-3.ensures.top (kept pairs c.in_ok-pair.ensures.below);
      y_made = top_wire c.set_wire-4.ensures.top (kept g3 c.requires.dest_made);
    }

pub returns-clause-below : goal.returns-clause-below
returns-clause-below g c =
    let product = c.in_ok-product.ensures in
    let after_sum = both (both c.in_ok-pair.ensures.emits.grows c.in_ok-pairs.ensures.emits.grows) product.emits.grows in
    let all = both c.in_ok-sum.ensures.emits.grows after_sum in
    record {
      dest = kept all c.requires.dest_made;
      other = kept all c.requires.other_made;
      sum = kept after_sum c.in_ok-sum.ensures.below;
      pairs = kept product.emits.grows c.in_ok-pairs.ensures.below;
      product = product.below;
    }
