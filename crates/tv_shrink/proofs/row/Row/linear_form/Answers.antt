use Rattle.tv_core.proofs.Common.{sym, ◌∙◌}
use Rattle.tv_shrink.proofs.Linear.{linear-first, linear-second, linear-none}
use Rattle.tv_shrink.proofs.row.Row.linear_form.Goals as goal

pub returns-in-Some : goal.returns-in-Some
returns-in-Some c = rw (← c.self.view_is) (linear-first _ c.in-Some.factor _ (sym c.constant_in.ensures ∙ c.in-Some.is) c.in_ok-subtract.ensures)

pub returns-in-Some-constant_in : goal.returns-in-Some-constant_in
returns-in-Some-constant_in c =
    rw (← c.self.view_is) (linear-second _ c.in-Some-constant_in.factor _ (sym c.constant_in.ensures ∙ c.in_default.is)
    (sym c.constant_in-2.ensures ∙ c.in-Some-constant_in.is) c.in_ok-subtract-2.ensures)

pub returns : goal.returns
returns c =
    rw (← c.self.view_is)
    (linear-none _ (sym c.constant_in.ensures ∙ c.in_default.is) (sym c.constant_in-2.ensures ∙ c.in_default-constant_in.is))
