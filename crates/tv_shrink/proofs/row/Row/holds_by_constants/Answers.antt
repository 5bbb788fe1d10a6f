use Rattle.std.proofs.Common.{Some, None, eqb, ◌∙◌, ap, sym}
use Rattle.tv_shrink.proofs.Constants.{by_constants}
use Rattle.tv_shrink.proofs.row.Row.holds_by_constants.Goals as goal

pub returns-in-Some-Some-Some : goal.returns-in-Some-Some-Some
returns-in-Some-Some-Some c =
    let read = c.in-Some-Some-Some in
    rw (← c.self.view_is)
    (c.eq.ensures ∙ ap (λ n. eqb n read.c) c.mul.ensures
    ∙ by_constants _ (Some read.a) (Some read.b) (Some read.c) (sym read.is-0 ∙ c.constant_in.ensures) (sym read.is-1 ∙ c.constant_in-2.ensures)
    (sym read.is-2 ∙ c.constant_in-3.ensures))

pub returns-in_default : goal.returns-in_default
returns-in_default c =
    let read = c.in_default in
    rw (← c.self.view_is)
    (by_constants _ (Some read.field-0-0) (Some read.field-0-1) None (sym read.is-0 ∙ c.constant_in.ensures) (sym read.is-1 ∙ c.constant_in-2.ensures)
    (sym read.is-2 ∙ c.constant_in-3.ensures))

pub returns-in_default-2 : goal.returns-in_default-2
returns-in_default-2 c =
    let read = c.in_default in
    rw (← c.self.view_is)
    (by_constants _ (Some read.field-0-0) None _ (sym read.is-0 ∙ c.constant_in.ensures) (sym read.is-1 ∙ c.constant_in-2.ensures) c.constant_in-3.ensures)

pub returns-in_default-3 : goal.returns-in_default-3
returns-in_default-3 c =
    rw (← c.self.view_is) (by_constants _ None _ _ (sym c.in_default.is-0 ∙ c.constant_in.ensures) c.constant_in-2.ensures c.constant_in-3.ensures)
