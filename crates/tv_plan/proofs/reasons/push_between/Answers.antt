use Rattle.tv_core.proofs.Common.{ℕ, List, ◌++◌, ap, ap₂, ◌∙◌}
use Rattle.std.proofs.Common.{decimal}
use Rattle.tv_plan.proofs.reasons.push_between.Goals as goal

pub returns-clause-text : goal.returns-clause-text
returns-clause-text c =
    c.push_str-2.ensures.bytes ∙ ap (λ (l : List ℕ). l ++ c.args.after.now)
    (c.push_number.ensures.text ∙ ap₂ (λ (l : List ℕ) (n : ℕ). l ++ decimal n) c.push_str.ensures.bytes c.from.ensures)
