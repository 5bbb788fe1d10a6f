use Rattle.tv_core.proofs.Common.{ℕ, ◌%◌, List, [], ◌∷◌, ◌++◌, ap₂, ◌∙◌, sym}
use Rattle.std.proofs.lemmas.List.{map_more}
use Rattle.tv_core.specs.declared.field.TheConstants.{P}
use Rattle.tv_plan.proofs.tapes.residues.Goals as goal

pub loop-number-preserved : goal.loop-number-preserved
loop-number-preserved c =
    c.in_ok-push.ensures.items ∙ ap₂ (λ (l : List ℕ) (r : ℕ). l ++ r ∷ []) c.loop-number.invariant c.of.ensures
    ∙ sym (map_more (λ (n : ℕ). n % P) c.args.numbers.now c.loop-number.number-index 0 c.loop-number-test.true)
