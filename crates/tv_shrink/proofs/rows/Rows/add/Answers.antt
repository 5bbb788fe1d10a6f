use Rattle.tv_core.proofs.Common.{◌≡◌, ◌∷◌, ◌++◌, ◌∙◌, Some, ap, ap₂, append-nil, cond, false, length, map, subst, sym, take, true, []}
use Rattle.std.proofs.Math.Seq.{take-append_seam}
use Rattle.std.specs.Option.{option_map}
use Rattle.tv_r1cs_read.specs.Rows.{constraint_of}
use Rattle.tv_core.specs.Normal.{normal_constraint, IsNormalConstraint}
use Rattle.tv_shrink.specs.Answers.{holds_by_constants}
use Rattle.tv_container.proofs.Chain.{err_is}
use Rattle.tv_shrink.specs.Spans.{row_at, row_terms, AreLaid}
use Rattle.tv_shrink.specs.declared.arena.Span.{Span}
use Rattle.tv_shrink.proofs.LayLaws.{laid_more, rows_added}
use Rattle.tv_shrink.proofs.Read.{constraint_normal}
use Rattle.tv_shrink.proofs.Spans.{row_appended}
use Rattle.tv_shrink.proofs.rows.Rows.add.Goals as goal
use Rattle.tv_shrink.proofs.rows.Rows.add.Goals.{After-row, After-truncate, In_ok-push}

-- with one more constraint
added : (c : In_ok-push) → AreLaid (length c.append_read.new.out.items) c.push.new.self.items
    × (map (option_map (row_at c.append_read.new.out.items)) c.push.new.self.items
    ≡ map (option_map (row_at c.self.inside.terms.items)) c.self.inside.spans.items ++ Some (normal_constraint (constraint_of c.args.row.now)) ∷ [])
added c =
    rows_added c.self.inside.terms.items c.append_read.new.out.items c.self.inside.spans.items c.push.new.self.items _ _ c.self.invariant
    c.in_ok-span.ensures.out c.in_ok-span.ensures.made c.in_ok-push.ensures.items

-- it is looked at where it lies
appended : (c : After-row) → c.row.result ≡ normal_constraint (constraint_of c.args.row.now)
appended c =
    c.row.ensures.row
    ∙ ap₂ row_at (c.deref.ensures.value ∙ c.in_ok-span.ensures.out) c.in_ok-span.ensures.made
    ∙ row_appended c.self.inside.terms.items (normal_constraint (constraint_of c.args.row.now))

pub holds_by_constants-requires : goal.holds_by_constants-requires
holds_by_constants-requires c =
    subst IsNormalConstraint (sym (appended (goal.at.holds_by_constants-requires c).After-row)) (constraint_normal (constraint_of c.args.row.now))

-- its terms are taken away
cut : (c : After-truncate) → c.truncate.new.self.items ≡ c.self.inside.terms.items
cut c =
    c.truncate.ensures.items
    ∙ ap₂ take (ap (λ (s : Span). s.start) c.in_ok-span.ensures.made) c.in_ok-span.ensures.out
    ∙ take-append_seam c.self.inside.terms.items (row_terms (normal_constraint (constraint_of c.args.row.now)))

pub returns-then-holds_by_constants-clause-rows : goal.returns-then-holds_by_constants-clause-rows
returns-then-holds_by_constants-clause-rows c =
    let row = normal_constraint (constraint_of c.args.row.now) in
    let is = appended (goal.at.returns-then-holds_by_constants-clause-rows c).After-row in
    let holds : holds_by_constants row ≡ true = ap holds_by_constants (sym is) ∙ sym c.holds_by_constants.ensures ∙ c.if-holds_by_constants.true in
    ap (λ terms. map (option_map (row_at terms)) c.self.inside.spans.items) (cut c) ∙ c.self.view_is ∙ sym (append-nil c.args.self.now)
    ∙ ap (λ b. c.args.self.now ++ cond b [] (Some row ∷ [])) (sym holds)

pub invariant_of-self-then-holds_by_constants : goal.invariant_of-self-then-holds_by_constants
invariant_of-self-then-holds_by_constants c = subst (λ terms. AreLaid (length terms) c.self.inside.spans.items) (sym (cut c)) c.self.invariant

pub returns-clause-rows : goal.returns-clause-rows
returns-clause-rows c =
    let row = normal_constraint (constraint_of c.args.row.now) in
    let is = appended (goal.at.returns-clause-rows c).After-row in
    let fails : holds_by_constants row ≡ false = ap holds_by_constants (sym is) ∙ sym c.holds_by_constants.ensures ∙ c.if-holds_by_constants.false in
    (added (goal.at.returns-clause-rows c).In_ok-push).1
    ∙ ap₂ (λ rows more. rows ++ more) c.self.view_is (ap (λ b. cond b [] (Some row ∷ [])) (sym fails))

pub returns-clause-narrow : goal.returns-clause-narrow
returns-clause-narrow c = c.in_ok-span.ensures.narrow

pub returns-in_err-span-clause-err : goal.returns-in_err-span-clause-err
returns-in_err-span-clause-err c = rw (err_is c.from_residual.result c.from_residual.ensures.1) c.in_err-span.ensures.err

pub returns-in_err-push-clause-err : goal.returns-in_err-push-clause-err
returns-in_err-push-clause-err c = rw (err_is c.from_residual-in_err-push.result c.from_residual-in_err-push.ensures.1) tt

pub invariant_of-self : goal.invariant_of-self
invariant_of-self c = laid_more _ _ c.self.inside.spans.items c.append_read.ensures.longer c.self.invariant

pub invariant_of-self-in_err-push : goal.invariant_of-self-in_err-push
invariant_of-self-in_err-push c =
    subst (AreLaid (length c.append_read.new.out.items)) (sym c.in_err-push.ensures.items)
    (laid_more _ _ c.self.inside.spans.items c.append_read.ensures.longer c.self.invariant)

pub invariant_of-self-2 : goal.invariant_of-self-2
invariant_of-self-2 c = (added (goal.at.invariant_of-self-2 c).In_ok-push).0
