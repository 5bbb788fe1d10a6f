use Rattle.tv_core.proofs.Common.{List, length, ap, ap₂, refl, sym, ◌∙◌, gives_refused, Line}
use Rattle.tv_core.specs.declared.lines.PairNum.{PairNum}
use Rattle.tv_fill.proofs.PartValues.{parts_of, same_filled, front_refused, steps_refused, all_given}
use Rattle.tv_fill.proofs.RunPlaces.{lines_many}
use Rattle.tv_fill.specs.Filled.{Filled, filled_lines, memory_values}
use Rattle.tv_argument.proofs.FillingLaws.{given_some, given_in}
use Rattle.tv_fill.proofs.filling.Filling.give.Goals as goal

pub fill_argument-requires-clause-items : goal.fill_argument-requires-clause-items
fill_argument-requires-clause-items g c =
    let i = c.self.inside in
    ap length c.as_mut_slice.ensures.value ∙ c.self.invariant.items_many ∙ sym (lines_many i.image.now i.tape.now i.lines)
    ∙ ap (λ (ls : List Line). length (filled_lines i.image.now i.tape.now ls)) (sym c.as_slice-4.ensures)

pub returns-in_err-fill_front-clause-gives : goal.returns-in_err-fill_front-clause-gives
returns-in_err-fill_front-clause-gives g c =
    let m = g.V.Values.giving in
    let i = c.self.inside in
    let is = ap (λ (f : Filled). f.values) c.self.view_is in
    gives_refused m _ _ _ c.from_residual.result c.from_residual.ensures.1
    (given_some m _ _ _ _ is _
    (front_refused m g.row.W i.answer i.t i.k i.net i.image.now i.tape.now i.aux.now i.states i.lines i.items.items i.settings _ _ _
    c.in_err-fill_front.ensures.gives))

pub returns-in_err-fill-clause-gives : goal.returns-in_err-fill-clause-gives
returns-in_err-fill-clause-gives g c =
    let m = g.V.Values.giving in
    let i = c.self.inside in
    let is = same_filled g.row.W i.answer i.t i.k i.net i.image.now i.tape.now i.aux.now {items = i.items.items} {bits = i.settings} c.as_slice.ensures
    c.as_slice-2.ensures refl refl
    ∙ ap (λ (f : Filled). f.values) c.self.view_is in
    gives_refused m _ _ _ c.from_residual-in_err-fill.result c.from_residual-in_err-fill.ensures.1
    (given_some m _ _ _ _ is _
    (steps_refused m g.row.W i.answer i.t i.k i.net i.image.now i.tape.now i.aux.now c.as_slice.result.now c.as_slice-2.result.now i.items.items i.settings _ _
    _ _
    c.in_ok-fill_front.ensures.gives c.in_err-fill.ensures.gives))

pub returns-clause-gives : goal.returns-clause-gives
returns-clause-gives g c =
    let m = g.V.Values.giving in
    let i = c.self.inside in
    let is = same_filled g.row.W i.answer i.t i.k i.net i.image.now i.tape.now i.aux.now {items = i.items.items} c.as_slice.ensures c.as_slice-2.ensures refl
    c.as_slice-3.ensures
    ∙ ap (λ (f : Filled). f.values) c.self.view_is in
    let same = ap₂ (λ (ls : List Line) (items : List PairNum).
    memory_values (parts_of i.answer i.t i.k i.net i.image.now i.tape.now i.aux.now c.as_slice.result.now ls items c.as_slice-3.result.now))
    (c.as_slice-4.ensures ∙ sym c.as_slice-2.ensures) c.as_mut_slice.ensures.value in
    given_in m _ _ _ _ is _
    (all_given m g.row.W i.answer i.t i.k i.net i.image.now i.tape.now i.aux.now c.as_slice.result.now c.as_slice-2.result.now i.items.items
    c.as_slice-3.result.now _ _ _ _ _
    c.in_ok-fill_front.ensures.gives c.in_ok-fill.ensures.gives (given_in m _ _ _ _ same _ c.fill_argument.ensures.gives))
