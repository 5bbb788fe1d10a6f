use Rattle.tv_core.proofs.Common.{refl, List, ℕ, subst}
use Rattle.tv_block.proofs.StepFills.{same_values}
use Rattle.tv_block.specs.Values.{block_values}
use Rattle.tv_core.specs.Values.{GivesIn}
use Rattle.tv_numbers.specs.Numbers.{step_words}
use Rattle.tv_block.proofs.values.fill_block.Goals as goal

pub returns-clause-gives : goal.returns-clause-gives
returns-clause-gives g c =
    let same = same_values (λ v head tail o takes. block_values g.row.W c.args.n v (step_words head tail o takes)) c.traced.ensures refl refl
    c.data_word-word.ensures c.is_some.ensures in
    subst (λ (l : List ℕ). GivesIn g.V.Values.giving c.args.v.now c.fill_traced_step.new.v l c.fill_traced_step.result) same c.fill_traced_step.ensures.gives
