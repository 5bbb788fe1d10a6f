use Rattle.tv_core.proofs.Common.{refl, refused_wires, some_first, then_in}
use Rattle.tv_bits.proofs.Growing.{fewer, within, left}
use Rattle.tv_regs.specs.ProductPlus.{product_plus_of}
use Rattle.tv_regs.specs.Triple.{point_of}
use Rattle.tv_regs.proofs.Rooms.{top_more, top_second, top_third, begins}
use Rattle.tv_regs.proofs.triple.point.Goals as goal

pub returns-in_err-bend : goal.returns-in_err-bend
unfolding point_of
returns-in_err-bend g c =
    let bend = rw (c.set_wire.ensures.terms, c.offset.ensures) at c.in_err-bend.ensures.emits in
    refused_wires _ _ _ _ c.from_residual.ensures (some_first _ bend)

pub returns-clause-emits : goal.returns-clause-emits
unfolding product_plus_of point_of
returns-clause-emits g c =
    let bend = rw (c.set_wire.ensures.terms, c.offset.ensures) at c.in_ok-bend.ensures.emits in
    let word = rw (c.plus.ensures.terms, c.set_wire-2.ensures.terms, c.offset-2.ensures, c.in_ok-bend.ensures.a) at c.product_plus.ensures.emits in
    then_in _ _ _ _ _ bend word

pub times_by-requires : goal.times_by-requires
times_by-requires g c =
    let r = c.requires in
    record { room = fewer r.room refl refl; x_made = r.n_made; y_made = top_third _ c.set_wire.ensures.top c.offset.ensures r.curve_made }

pub product_plus-requires : goal.product_plus-requires
product_plus-requires g c =
    let r = c.requires in
    let bend = c.in_ok-bend.ensures in
    let made = within bend.emits.grows r.curve_made in
    record {
      room = left bend.emits.grows r.room refl refl;
      x_made = rw bend.a (within bend.emits.grows r.n_made);
      y_made = top_more c.plus.ensures.top (top_second _ c.set_wire-2.ensures.top c.offset-2.ensures made) bend.below;
      old_made = begins _ made;
    }
