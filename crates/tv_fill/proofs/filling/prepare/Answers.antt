use Rattle.tv_core.proofs.Common.{◌≡◌, ℕ, length, ap, ◌∙◌, arith}
use Rattle.tv_fill.proofs.PartValues.{parts_of}
use Rattle.tv_fill.proofs.Prepared.{lines_fit, lines_in_range, packed_as, items_few, items_placed, permutes, parts_fit, values_are}
use Rattle.tv_fill.specs.Filled.{filled_values}
use Rattle.tv_layout.specs.RunInputs.{run_on}
use Rattle.tv_layout.specs.Systems.{run_values}
use Rattle.tv_fill.proofs.filling.prepare.Goals as goal

pub pack_items-requires-clause-few : goal.pack_items-requires-clause-few
pack_items-requires-clause-few g c =
    lines_fit _ c.args.net _ _ _ _ c.requires.limits c.requires.tape_words c.requires.aux_words _
    (c.as_slice.ensures ∙ c.in_ok-answer.ensures.trace.lines)

pub pack_items-requires-clause-steps : goal.pack_items-requires-clause-steps
pack_items-requires-clause-steps g c =
    lines_in_range _ c.args.net _ _ _ _ c.requires.limits c.requires.tape_words c.requires.aux_words _
    (c.as_slice.ensures ∙ c.in_ok-answer.ensures.trace.lines)

pub settings_to_predecessors-requires-clause-few : goal.settings_to_predecessors-requires-clause-few
settings_to_predecessors-requires-clause-few g c =
    let packed = packed_as c.args.image.now c.args.tape.now _ _ _ c.in_ok-items.ensures c.as_slice.ensures in
    rw c.deref.ensures.value (items_few _ c.args.net _ _ _ _ c.requires.limits c.requires.tape_words c.requires.aux_words _
    c.in_ok-answer.ensures.trace.lines _ c.in_ok-answer.ensures.trace.states _ packed)

pub settings_to_predecessors-requires-clause-times : goal.settings_to_predecessors-requires-clause-times
settings_to_predecessors-requires-clause-times g c =
    let packed = packed_as c.args.image.now c.args.tape.now _ _ _ c.in_ok-items.ensures c.as_slice.ensures in
    rw c.deref.ensures.value (items_placed _ c.args.net _ _ _ _ c.requires.limits c.requires.tape_words c.requires.aux_words _
    c.in_ok-answer.ensures.trace.lines _ c.in_ok-answer.ensures.trace.states _ packed)

pub settings_to_predecessors-requires-clause-permutes : goal.settings_to_predecessors-requires-clause-permutes
settings_to_predecessors-requires-clause-permutes g c =
    let packed = packed_as c.args.image.now c.args.tape.now _ _ _ c.in_ok-items.ensures c.as_slice.ensures in
    rw c.deref.ensures.value (permutes _ c.args.net _ _ _ _ c.requires.limits c.requires.tape_words c.requires.aux_words _
    c.in_ok-answer.ensures.trace.lines _ c.in_ok-answer.ensures.trace.states _ packed)

pub invariant_of-result : goal.invariant_of-result
invariant_of-result g c =
    let packed = packed_as c.args.image.now c.args.tape.now _ _ _ c.in_ok-items.ensures c.as_slice.ensures in
    let set = rw c.deref.ensures.value at c.in_ok-settings.ensures in
    let fit = parts_fit _ c.args.net _ _ _ _ c.requires.limits c.requires.tape_words c.requires.aux_words _
    c.in_ok-answer.ensures.trace.lines _ c.in_ok-answer.ensures.trace.states _ packed
    _ set _ c.in_ok-answer.ensures.trace.answer _ c.wires.ensures.is in
    rw c.log_of-k.ensures.is fit

pub returns-clause-filling : goal.returns-clause-filling
returns-clause-filling g c =
    let w : ℕ = g.row.W in
    let v = c.in_ok-answer.field-0.answer in
    let states = c.in_ok-answer.field-0.states in
    let lines = c.in_ok-answer.field-0.lines in
    let items = c.in_ok-items.items.items in
    let bits = c.in_ok-settings.settings in
    let packed = packed_as c.args.image.now c.args.tape.now _ _ _ c.in_ok-items.ensures c.as_slice.ensures in
    let set = rw c.deref.ensures.value at c.in_ok-settings.ensures in
    let whole = values_are _ c.args.net _ _ _ _ c.requires.limits c.requires.tape_words c.requires.aux_words _
    c.in_ok-answer.ensures.trace.lines _ c.in_ok-answer.ensures.trace.states _ packed bits set v in
    let values :
    filled_values w (parts_of v c.args.t c.log_of-k.result c.args.net c.args.image.now c.args.tape.now c.args.aux.now states lines items bits)
    ≡ run_values c.args.net (run_on w c.args.image.now c.args.tape.now c.args.aux.now c.args.t) v =
    ap (λ (k : ℕ). filled_values w (parts_of v c.args.t k c.args.net c.args.image.now c.args.tape.now c.args.aux.now states lines items bits))
    c.log_of-k.ensures.is
    ∙ whole in
    record { answer = c.in_ok-answer.ensures.trace.answer; values = values }
