use Rattle.tv_core.proofs.Common.{◌≡◌, ◌+◌, ◌≤◌, ◌∙◌, sym, ap, ap₂, arith, drop, length}
use Rattle.tv_outline.proofs.ListLaws.{first_is}
use Rattle.tv_outline.proofs.PlaceLaws.{found, found_in, left_first, nothing_left}
use Rattle.tv_outline.specs.Expansion.{constraint_in, values_of}
use Rattle.tv_outline.specs.Places.{left_of}
use Rattle.tv_outline.proofs.place.set_at.Goals as goal

pub returns-in-Some-clause-some : goal.returns-in-Some-clause-some
returns-in-Some-clause-some c =
    let words = c.args.outline.now.words.items in
    let regions = c.args.outline.now.regions.items in
    let at = c.args.at in
    let region = c.in-Some.region.now in
    let look = c.in-Some.ensures.lookup in
    let here = found c.deref.result.now regions at.region region c.deref.ensures.value look.3.0 look.1 in
    let inside = found_in c.deref.result.now regions at.region region c.deref.ensures.value look.3.0 look.1 at.turn at.row c.requires.at in
    let row = c.index.result.now in
    let values : c.deref-in-Some-2.result.now ≡ values_of words region at.turn =
    c.deref-in-Some-2.ensures.0 ∙ c.values_of-values.ensures ∙ ap (λ l. values_of l region at.turn) c.deref-in-Some.ensures.value in
    let same = ap₂ (constraint_in region) values c.index.ensures in
    let first = ap (λ l. left_of words l at.turn at.row) here ∙ left_first words region (drop (at.region + 1) regions) at.turn at.row row inside.1 in
    let test = first_is _ _ _ _ first in
    λ _. test.0 (sym same ∙ c.set_row.ensures)

pub returns-in-None-clause-none : goal.returns-in-None-clause-none
returns-in-None-clause-none c =
    let at = c.args.at in
    let past : length c.args.outline.now.regions.items ≤ at.region = omega (arith, c.in-None.ensures.lookup.3, ap length c.deref.ensures.value) in
    λ _. nothing_left c.args.outline.now.words.items c.args.outline.now.regions.items at.region at.turn at.row past
