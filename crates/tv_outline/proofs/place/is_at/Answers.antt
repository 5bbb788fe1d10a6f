use Rattle.tv_core.specs.Constraints.{Constraint}
use Rattle.tv_outline.proofs.ListLaws.{first_is, no_first}
use Rattle.tv_outline.proofs.place.is_at.Goals as goal

pub returns-then-not-set_at : goal.returns-then-not-set_at
returns-then-not-set_at c = no_first _ _ (c.set_at.ensures.none c.if-not-set_at.true)

pub returns : goal.returns
returns c =
    let it : Constraint = record { a = c.args.a.now; b = c.args.b.now; c = c.args.c.now } in
    let test = first_is _ _ _ it (c.set_at.ensures.some c.if-not-set_at.false) in
    (λ h. test.0 (c.are_same.ensures.0 h), λ e. c.are_same.ensures.1 (test.1 e))
