use Rattle.tv_core.proofs.Common.{◌≡◌, ◌+◌, ◌^◌, ◌<◌, ◌≤◌, ◌∙◌, sym, ap, arith, drop, length, subst}
use Rattle.std.proofs.lemmas.List.Elements.{All-drop}
use Rattle.tv_outline.proofs.PlaceLaws.{found, found_in, found_proper, nothing_left, region_next, row_next, start_is_in, turn_next}
use Rattle.tv_outline.specs.Expansion.{IsProper, turn_count}
use Rattle.tv_outline.specs.Places.{left_of}
use Rattle.tv_outline.proofs.place.after.Goals as goal

pub returns-then-not-last_row-clause-left : goal.returns-then-not-last_row-clause-left
returns-then-not-last_row-clause-left c =
    let words = c.args.outline.now.words.items in
    let regions = c.args.outline.now.regions.items in
    let at = c.args.at in
    let region = c.in-Some.region.now in
    let look = c.in-Some.ensures.lookup in
    let here = found c.deref.result.now regions at.region region c.deref.ensures.value look.3.0 look.1 in
    let inside = found_in c.deref.result.now regions at.region region c.deref.ensures.value look.3.0 look.1 at.turn at.row c.requires.at in
    subst (λ l. left_of words l at.turn (at.row + 1) ≡ drop 1 (left_of words l at.turn at.row)) (sym here)
    (row_next words region (drop (at.region + 1) regions) at.turn at.row inside.1)

pub returns-then-at-turn_count-clause-left : goal.returns-then-at-turn_count-clause-left
returns-then-at-turn_count-clause-left c =
    let words = c.args.outline.now.words.items in
    let regions = c.args.outline.now.regions.items in
    let at = c.args.at in
    let region = c.in-Some.region.now in
    let look = c.in-Some.ensures.lookup in
    let here = found c.deref.result.now regions at.region region c.deref.ensures.value look.3.0 look.1 in
    let proper = found_proper c.deref.result.now regions at.region region c.deref.ensures.value look.3.0 look.1 c.requires.outline.regions in
    let counts = c.deref-else-not-last_row.ensures.value in
    let count = c.turn_count.ensures.few (subst (λ l. turn_count l < 2 ^ 32) (sym counts) proper.few) ∙ ap turn_count counts in
    subst (λ l. left_of words l (at.turn + 1) 0 ≡ drop 1 (left_of words l at.turn at.row)) (sym here)
    (turn_next words region (drop (at.region + 1) regions) at.turn at.row (omega arith) (omega (arith, count)))

pub returns-else-at-turn_count-clause-at : goal.returns-else-at-turn_count-clause-at
returns-else-at-turn_count-clause-at c =
    start_is_in (drop (c.args.at.region + 1) c.args.outline.now.regions.items)
    (All-drop IsProper (c.args.at.region + 1) c.args.outline.now.regions.items c.requires.outline.regions)

pub returns-else-at-turn_count-clause-left : goal.returns-else-at-turn_count-clause-left
returns-else-at-turn_count-clause-left c =
    let words = c.args.outline.now.words.items in
    let regions = c.args.outline.now.regions.items in
    let at = c.args.at in
    let region = c.in-Some.region.now in
    let look = c.in-Some.ensures.lookup in
    let rest = drop (at.region + 1) regions in
    let here = found c.deref.result.now regions at.region region c.deref.ensures.value look.3.0 look.1 in
    let proper = found_proper c.deref.result.now regions at.region region c.deref.ensures.value look.3.0 look.1 c.requires.outline.regions in
    let counts = c.deref-else-not-last_row.ensures.value in
    let count = c.turn_count.ensures.few (subst (λ l. turn_count l < 2 ^ 32) (sym counts) proper.few) ∙ ap turn_count counts in
    subst (λ l. left_of words rest 0 0 ≡ drop 1 (left_of words l at.turn at.row)) (sym here)
    (region_next words region rest at.turn at.row (omega arith) (omega (arith, count)) (All-drop IsProper (at.region + 1) regions c.requires.outline.regions))

pub returns-in-None-clause-left : goal.returns-in-None-clause-left
returns-in-None-clause-left c =
    let at = c.args.at in
    let past : length c.args.outline.now.regions.items ≤ at.region = omega (arith, c.in-None.ensures.lookup.3, ap length c.deref.ensures.value) in
    let none = nothing_left c.args.outline.now.words.items c.args.outline.now.regions.items at.region at.turn at.row past in
    none ∙ sym (ap (drop 1) none)
