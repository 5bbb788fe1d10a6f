use Rattle.tv_core.proofs.Common.{refl, ◌∙◌, refused, all_then, some_then, some_first, all_last}
use Rattle.tv_bits.proofs.Growing.{fewer, within, kept, both, left, top_wire}
use Rattle.tv_bits.specs.Number.{number_of}
use Rattle.tv_regs.proofs.Rooms.{top_number}
use Rattle.tv_regs.proofs.TripleLaws.{triple_answer}
use Rattle.tv_regs.specs.Triple.{triple_of}
use Rattle.tv_regs.proofs.triple.read_triple.Goals as goal

pub returns-in_err-roots-clause-emits : goal.returns-in_err-roots-clause-emits
unfolding triple_of
returns-in_err-roots-clause-emits g c =
    let roots = c.in_err-roots.ensures.emits in
    refused _ _ _ c.from_residual.ensures.1 (some_first _ roots)

pub returns-in_err-curve-clause-emits : goal.returns-in_err-curve-clause-emits
unfolding triple_of
returns-in_err-curve-clause-emits g c =
    let roots = c.in_ok-roots.ensures.emits in
    let curve = c.in_err-curve.ensures.emits in
    refused _ _ _ c.from_residual-in_err-curve.ensures.1 (some_then _ roots (some_first _ curve))

pub returns-in_err-other_word-clause-emits : goal.returns-in_err-other_word-clause-emits
unfolding triple_of
returns-in_err-other_word-clause-emits g c =
    let roots = c.in_ok-roots.ensures.emits in
    let curve = c.in_ok-curve.ensures.emits in
    let other_word = rw c.set_wire.ensures.terms at c.in_err-other_word.ensures.emits in
    refused _ _ _ c.from_residual-in_err-other_word.ensures.1 (some_then _ roots (some_then _ curve (some_first _ other_word)))

pub returns-in_err-named_word-clause-emits : goal.returns-in_err-named_word-clause-emits
unfolding triple_of
returns-in_err-named_word-clause-emits g c =
    let roots = c.in_ok-roots.ensures.emits in
    let curve = c.in_ok-curve.ensures.emits in
    let other_word = rw c.set_wire.ensures.terms at c.in_ok-other_word.ensures.emits in
    let named_word = rw c.set_number.ensures.terms at c.in_err-named_word.ensures.emits in
    refused _ _ _ c.from_residual-in_err-named_word.ensures.1 (some_then _ roots (some_then _ curve (some_then _ other_word (some_first _ named_word))))

pub returns-in_err-dest_word-clause-emits : goal.returns-in_err-dest_word-clause-emits
unfolding triple_of
returns-in_err-dest_word-clause-emits g c =
    let roots = c.in_ok-roots.ensures.emits in
    let curve = c.in_ok-curve.ensures.emits in
    let other_word = rw c.set_wire.ensures.terms at c.in_ok-other_word.ensures.emits in
    let named_word = rw c.set_number.ensures.terms at c.in_ok-named_word.ensures.emits in
    let dest_word = rw c.set_wire-2.ensures.terms at c.in_err-dest_word.ensures.emits in
    refused _ _ _ c.from_residual-in_err-dest_word.ensures.1 (some_then _ roots (some_then _ curve (some_then _ other_word (some_then _ named_word
    (some_first _ dest_word)))))

pub returns-clause-emits : goal.returns-clause-emits
unfolding triple_of
returns-clause-emits g c =
    let roots = c.in_ok-roots.ensures.emits in
    let curve = c.in_ok-curve.ensures.emits in
    let other_word = rw c.set_wire.ensures.terms at c.in_ok-other_word.ensures.emits in
    let named_word = rw c.set_number.ensures.terms at c.in_ok-named_word.ensures.emits in
    let dest_word = rw c.set_wire-2.ensures.terms at c.in_ok-dest_word.ensures.emits in
    all_then _ roots (all_then _ curve (all_then _ other_word (all_then _ named_word (all_last _ dest_word refl))))

pub returns-clause-places : goal.returns-clause-places
returns-clause-places g c = (returns-clause-emits g c).puts.answers
    ∙ triple_answer c.args.stores.now (number_of c.args.names.now.dest) (number_of c.args.names.now.source) (number_of c.args.names.now.named) c.args.regs.now _

pub new_roots-requires : goal.new_roots-requires
new_roots-requires g c =
    let r = c.requires in
    record { room = fewer r.room refl refl; stores_short = r.stores_short; stores_made = r.stores_made; names_made = r.names_made }

pub new_curve-requires : goal.new_curve-requires
new_curve-requires g c =
    let roots = c.in_ok-roots.ensures in
    record { room = left roots.emits.grows c.requires.room refl refl; roots_made = roots.below; regs_made = within roots.emits.grows c.requires.regs_made }

pub point-requires : goal.point-requires
point-requires g c =
    let curve = c.in_ok-curve.ensures in
    record {
      room = left (both c.in_ok-roots.ensures.emits.grows curve.emits.grows) c.requires.room refl refl;
      n_made = top_wire c.set_wire.ensures.top (kept curve.emits.grows c.in_ok-roots.ensures.below.other);
      curve_made = curve.below;
    }

pub point-requires-2 : goal.point-requires-2
point-requires-2 g c =
    let names = c.requires.names_made in
    let other = c.in_ok-other_word.ensures.emits.grows in
    let all = both (both c.in_ok-roots.ensures.emits.grows c.in_ok-curve.ensures.emits.grows) other in
    record {
      room = left all c.requires.room refl refl;
      n_made = top_number _ c.set_number.ensures.top names.named (within all names.named_made);
      curve_made = within other c.in_ok-curve.ensures.below;
    }

pub point-requires-3 : goal.point-requires-3
point-requires-3 g c =
    let words = both c.in_ok-other_word.ensures.emits.grows c.in_ok-named_word.ensures.emits.grows in
    let after_roots = both c.in_ok-curve.ensures.emits.grows words in
    record {
      room = left (both c.in_ok-roots.ensures.emits.grows after_roots) c.requires.room refl refl;
      n_made = top_wire c.set_wire-2.ensures.top (kept after_roots c.in_ok-roots.ensures.below.dest);
      curve_made = within words c.in_ok-curve.ensures.below;
    }
