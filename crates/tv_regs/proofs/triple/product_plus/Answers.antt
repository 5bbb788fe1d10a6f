use Rattle.tv_core.proofs.Common.{refl, refused_wires, all_then, some_then, some_first, all_last}
use Rattle.tv_bits.proofs.Growing.{fresh_fits, within, kept, put_fits, made_by}
use Rattle.tv_regs.specs.ProductPlus.{product_plus_of}
use Rattle.tv_regs.proofs.Rooms.{top_more, top_none}
use Rattle.tv_regs.proofs.triple.product_plus.Goals as goal

pub returns-in_err-put : goal.returns-in_err-put
unfolding product_plus_of
returns-in_err-put g c =
    let sides = rw (c.plus-2.ensures.terms, c.plus.ensures.terms, c.clear.ensures, c.neg.ensures) at c.in_err-put.ensures.emits in
    refused_wires _ _ _ _ c.from_residual.ensures (some_then _ c.fresh-new.ensures.emits (some_first _ sides))

pub returns-clause-emits : goal.returns-clause-emits
unfolding product_plus_of
returns-clause-emits g c =
    let sides = rw (c.plus-2.ensures.terms, c.plus.ensures.terms, c.clear.ensures, c.neg.ensures) at c.in_ok-put.ensures.emits in
    all_then _ c.fresh-new.ensures.emits (all_last _ sides refl)

pub fresh-new-requires : goal.fresh-new-requires
fresh-new-requires g c = record { whole = c.requires.room.whole; room = fresh_fits c.requires.room refl }

pub put-requires : goal.put-requires
put-requires g c =
    let r = c.requires in
    let g1 = c.fresh-new.ensures.emits.grows in
    let first = top_more c.plus.ensures.top (top_none c.clear.ensures) (kept g1 r.old_made) in
    record {
      whole = g1.whole;
      room = put_fits g1 r.room refl;
      a_made = within g1 r.x_made;
      b_made = within g1 r.y_made;
      c_made = top_more c.plus-2.ensures.top first (made_by g1 c.fresh-new.ensures.next);
    }

pub returns-clause-below : goal.returns-clause-below
returns-clause-below g c = kept c.in_ok-put.ensures.emits.grows (made_by c.fresh-new.ensures.emits.grows c.fresh-new.ensures.next)
