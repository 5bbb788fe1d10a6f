use Rattle.tv_core.proofs.Common.{all_then, some_then, some_first, refused_wires, all_last, refl}
use Rattle.tv_inputs.specs.Results.{results_of}
use Rattle.tv_results.proofs.results.put_results.Goals as goal

pub returns-in_err-word : goal.returns-in_err-word
unfolding results_of
returns-in_err-word g c = refused_wires _ _ _ _ c.from_residual.ensures (some_first _ c.in_err-word.ensures.emits)

pub returns-in_err-tested : goal.returns-in_err-tested
unfolding results_of
returns-in_err-tested g c =
    refused_wires _ _ _ _ c.from_residual-in_err-tested.ensures (some_then _ c.in_ok-word.ensures.emits (some_first _ c.in_err-tested.ensures.emits))

pub returns-clause-emits : goal.returns-clause-emits
unfolding results_of
returns-clause-emits g c = all_then _ c.in_ok-word.ensures.emits (all_last _ c.in_ok-tested.ensures.emits refl)
