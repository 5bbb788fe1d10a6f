use Rattle.tv_core.proofs.Common.{refl, arith, refused_wires, some_then, some_first, then_in}
use Rattle.tv_bits.proofs.Growing.{fewer, within, kept, both, left}
use Rattle.tv_regs.specs.Triple.{roots_of}
use Rattle.tv_regs.proofs.Rooms.{top_number}
use Rattle.tv_regs.proofs.triple.new_roots.Goals as goal

pub returns-in_err-dest : goal.returns-in_err-dest
unfolding roots_of
returns-in_err-dest g c =
    let dest = rw (c.set_number.ensures.terms) at c.in_err-dest.ensures.emits in
    refused_wires _ _ _ _ c.from_residual.ensures (some_first _ dest)

pub returns-in_err-other : goal.returns-in_err-other
unfolding roots_of
returns-in_err-other g c =
    let dest = rw (c.set_number.ensures.terms) at c.in_ok-dest.ensures.emits in
    let other = rw (c.plus_terms.ensures.terms, c.clear.ensures, c.number_terms-source.ensures.terms) at c.in_err-other.ensures.emits in
    refused_wires _ _ _ _ c.from_residual-in_err-other.ensures (some_then _ dest (some_first _ other))

pub returns-clause-emits : goal.returns-clause-emits
unfolding roots_of
returns-clause-emits g c =
    let dest = rw (c.set_number.ensures.terms) at c.in_ok-dest.ensures.emits in
    let other = rw (c.plus_terms.ensures.terms, c.clear.ensures, c.number_terms-source.ensures.terms) at c.in_ok-other.ensures.emits in
    then_in _ _ _ _ _ dest (then_in _ _ _ _ _ other c.sums.ensures.emits)

pub kept_by-requires : goal.kept_by-requires
kept_by-requires g c =
    let names = c.requires.names_made in
    record { room = fewer c.requires.room refl refl; x_made = top_number _ c.set_number.ensures.top names.dest names.dest_made }

pub pick_by-requires-clause-room : goal.pick_by-requires-clause-room
pick_by-requires-clause-room g c = left c.in_ok-dest.ensures.emits.grows c.requires.room refl refl

pub pick_by-requires-clause-b_made : goal.pick_by-requires-clause-b_made
pick_by-requires-clause-b_made g c =
    rw (c.plus_terms.ensures.terms, c.clear.ensures) (within c.in_ok-dest.ensures.emits.grows c.requires.stores_made)

pub pick_by-requires-clause-made : goal.pick_by-requires-clause-made
pick_by-requires-clause-made g c =
    let dest = c.in_ok-dest.ensures in
    omega (arith, dest.below, c.number_terms-source.ensures.top, within dest.emits.grows c.requires.names_made.source_made)

pub sums-requires : goal.sums-requires
sums-requires g c =
    let r = c.requires in
    let g2 = both c.in_ok-dest.ensures.emits.grows c.in_ok-other.ensures.emits.grows in
    record {
      room = left g2 r.room refl refl;
      named_short = r.names_made.named;
      named_made = within g2 r.names_made.named_made;
      dest_made = kept c.in_ok-other.ensures.emits.grows c.in_ok-dest.ensures.below;
      other_made = c.in_ok-other.ensures.below;
    }
