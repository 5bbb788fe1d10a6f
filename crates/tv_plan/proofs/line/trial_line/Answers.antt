use Rattle.tv_core.proofs.Common.{◌≡◌, ℕ, List, ◌++◌, ap, ap₂, ◌∙◌, append_assoc}
use Rattle.std.proofs.Common.{codes, decimal}
use Rattle.tv_plan.proofs.line.trial_line.Goals as goal

-- parts that are added one after another
regroup : (a b c d e f g h i j : List ℕ) → (((((a ++ b ++ c ++ d ++ e) ++ f) ++ g) ++ h) ++ i) ++ j ≡ a ++ b ++ c ++ d ++ e ++ f ++ g ++ h ++ i ++ j
regroup a b c d e f g h i j = simp append_assoc

pub returns-clause-text : goal.returns-clause-text
returns-clause-text c =
    let trial = c.args.trial in
    let pair = c.pair_line-line.ensures.text
    ∙ ap₂ (λ m n. codes "trial: steps " ++ decimal m ++ codes ", wires " ++ decimal n ++ codes ", constraints ") c.from-steps.ensures c.from-wires.ensures in
    let constraints = c.push_number.ensures.text ∙ ap₂ (λ l n. l ++ decimal n) pair c.from.ensures in
    let sum = c.push_number-2.ensures.text ∙ ap (λ l. l ++ decimal trial.sum) (c.push_str.ensures.bytes ∙ ap (λ l. l ++ codes ", sum ") constraints) in
    c.push_number-3.ensures.text ∙ ap₂ (λ l n. l ++ decimal n) (c.push_str-2.ensures.bytes ∙ ap (λ l. l ++ codes ", satisfied ") sum) c.from-2.ensures
    ∙ regroup (codes "trial: steps ") (decimal trial.steps) (codes ", wires ") (decimal trial.wires) (codes ", constraints ") (decimal trial.constraints)
    (codes ", sum ") (decimal trial.sum) (codes ", satisfied ") (decimal trial.satisfied)
