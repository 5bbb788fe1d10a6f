use Rattle.tv_core.proofs.Common.{◌≡◌, ◌<◌, ◌≤◌, ◌-◌, ◌∙◌, ◌++◌, ◌∷◌, Some, None, true, false, ℕ, ap, arith, drop, get_or, length, subst, sym, take, [], scaled}
use Rattle.tv_core.proofs.Common.{normal, IsNormalFrom}
use Rattle.std.proofs.lemmas.List.{nil_from_length, with_items_is}
use Rattle.std.proofs.lemmas.Result.{on_ok_weaker}
use Rattle.tv_core.proofs.NormalLaws.{Over, Over-normal, Over-scaled, IsNormalFrom-normal}
use Rattle.tv_core.specs.Inverse.{inverse_of}
use Rattle.tv_core.specs.declared.field.TheConstants.{P}
use Rattle.std.specs.Prelude.{option_to_list}
use Rattle.tv_shrink.specs.Pass.{attempted, dropped, linear_row}
use Rattle.tv_shrink.proofs.Constants.{parted, Parted}
use Rattle.tv_shrink.proofs.Linear.{solve-made}
use Rattle.tv_shrink.proofs.Passes.{form_is, form-normal, turn-empty, turn-private, turn-public, turn-unlinear}
use Rattle.tv_shrink.proofs.States.{staged}
use Rattle.tv_shrink.proofs.pass.Pass.turn.Goals as goal
use Rattle.tv_shrink.proofs.pass.Pass.turn.Goals.{After-solve, In-Some-pop}

-- what the constraint says is 0, and its last term
says : (c : In-Some-pop) → linear_row (get_or c.args.self.now.state.pass.rows c.args.at None)
    ≡ Some (c.pop.new.self.items ++ (c.in-Some-pop.last.0, c.in-Some-pop.last.1) ∷ [])
says c =
    form_is c.args.self.now.state.pass.rows c.args.at (Some c.in-Some.row) c.linear_form.new.out.items c.in_ok-linear_form.field-0 true
    (sym c.in-Some.is ∙ c.get.ensures.row) c.in_ok-linear_form.ensures c.if-not-branch.false
    ∙ ap Some (c.pop.ensures.items ∙ ap (λ o. c.pop.new.self.items ++ option_to_list o) c.in-Some-pop.is)

ends : (c : In-Some-pop) → Parted 0 c.in-Some-pop.last.1 c.in-Some-pop.last.0 c.pop.new.self.items []
ends c = parted 0 c.in-Some-pop.last.1 c.in-Some-pop.last.0 c.pop.new.self.items []
    (form-normal (get_or c.args.self.now.state.pass.rows c.args.at None) _ (says c))

pub returns-in_default : goal.returns-in_default
returns-in_default c =
    staged c.args.self.now.state _ (turn-unlinear c.args.self.now.state.publics c.args.at c.args.self.now.state.pass
    (ap linear_row (sym c.get.ensures.row ∙ c.in_default.is)))

pub returns-then-not-branch : goal.returns-then-not-branch
returns-then-not-branch c =
    staged c.args.self.now.state _ (turn-unlinear c.args.self.now.state.publics c.args.at c.args.self.now.state.pass
    (form_is c.args.self.now.state.pass.rows c.args.at (Some c.in-Some.row) c.linear_form.new.out.items c.in_ok-linear_form.field-0 false
    (sym c.in-Some.is ∙ c.get.ensures.row) c.in_ok-linear_form.ensures c.if-not-branch.true))

pub returns-in_default-pop : goal.returns-in_default-pop
returns-in_default-pop c =
    c.remove.ensures
    ∙ ap (λ p. record { publics = c.args.self.now.state.publics; pass = p })
    (sym (turn-empty c.args.self.now.state.publics c.args.at c.args.self.now.state.pass
    (form_is c.args.self.now.state.pass.rows c.args.at (Some c.in-Some.row) c.linear_form.new.out.items c.in_ok-linear_form.field-0 true
    (sym c.in-Some.is ∙ c.get.ensures.row) c.in_ok-linear_form.ensures c.if-not-branch.false
    ∙ ap Some (nil_from_length c.linear_form.new.out.items (grind arith)))))

pub returns-then-wire-publics : goal.returns-then-wire-publics
returns-then-wire-publics c =
    staged c.args.self.now.state _
    (turn-public c.args.self.now.state.publics c.args.at c.in-Some-pop.last.0 c.in-Some-pop.last.1 c.args.self.now.state.pass c.pop.new.self.items
    (says (goal.at.returns-then-wire-publics c).In-Some-pop) (omega (arith, c.wire.view_is, c.publics.ensures, c.if-wire-publics.true)))

pub solve-requires-clause-normal : goal.solve-requires-clause-normal
solve-requires-clause-normal c = subst (IsNormalFrom 0) (sym c.deref_mut.ensures.value) (ends (goal.at.solve-requires-clause-normal c).In-Some-pop).front

pub solve-requires-clause-apart : goal.solve-requires-clause-apart
solve-requires-clause-apart c = (ends (goal.at.solve-requires-clause-apart c).In-Some-pop).some

-- what it makes of its greatest wire
made : (c : After-solve) → take c.pop.new.self.len (c.solve.new.terms ++ drop (length c.solve.new.terms) c.pop.new.self.items)
    ≡ normal (scaled (P - inverse_of c.in-Some-pop.last.0) c.pop.new.self.items)
made c =
    with_items_is c.pop.new.self c.solve.new.terms (c.solve.ensures.size ∙ c.deref_mut.ensures.len) ∙ c.solve.ensures.is
    ∙ ap (λ x. normal (scaled (P - inverse_of c.in-Some-pop.last.0) x)) c.deref_mut.ensures.value

pub eliminate-requires-clause-by : goal.eliminate-requires-clause-by
eliminate-requires-clause-by c = subst (IsNormalFrom 0) (sym (made (goal.at.eliminate-requires-clause-by c).After-solve)) (IsNormalFrom-normal _)

pub eliminate-requires-clause-below : goal.eliminate-requires-clause-below
eliminate-requires-clause-below c =
    let Q : ℕ → Type 0 = λ v. v < c.in-Some-pop.last.1 in
    subst (Over Q) (sym (made (goal.at.eliminate-requires-clause-below c).After-solve))
    (Over-normal Q _ (Over-scaled Q _ c.pop.new.self.items (ends (goal.at.eliminate-requires-clause-below c).In-Some-pop).below))

pub returns : goal.returns
returns c =
    let w = (goal.at.returns c).In-Some-pop in
    let state = c.args.self.now.state in
    let above : state.publics ≤ c.in-Some-pop.last.1 = omega (arith, c.wire.view_is, c.publics.ensures, c.if-wire-publics.false) in
    on_ok_weaker c.eliminate.result (λ new. new
    ∙ ap (λ p. record { publics = state.publics; pass = p })
    (ap (λ r. attempted c.in-Some-pop.last.1 r (dropped c.args.at state.pass) state.pass) (made (goal.at.returns c).After-solve
    ∙ solve-made c.in-Some-pop.last.0 c.in-Some-pop.last.1 c.pop.new.self.items (form-normal (get_or state.pass.rows c.args.at None) _ (says w)))
    ∙ sym (turn-private state.publics c.args.at c.in-Some-pop.last.0 c.in-Some-pop.last.1 state.pass c.pop.new.self.items (says w) above)))
    c.eliminate.ensures
