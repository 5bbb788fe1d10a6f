use Rattle.tv_core.proofs.Common.{refused, all_then, some_then, some_first, all_last, refl, emits_as, arith}
use Rattle.tv_logic.specs.Logic.{logic_of}
use Rattle.tv_logic.proofs.gadget.logic.Goals as goal

pub returns-in_err-words-clause-emits : goal.returns-in_err-words-clause-emits
unfolding logic_of
returns-in_err-words-clause-emits g c =
    refused _ _ _ c.from_residual.ensures.1 (some_first _ c.in_err-words.ensures.emits)

pub returns-in_err-flags-clause-emits : goal.returns-in_err-flags-clause-emits
unfolding logic_of
returns-in_err-flags-clause-emits g c =
    refused _ _ _ c.from_residual-in_err-flags.ensures.1 (some_then _ c.in_ok-words.ensures.emits (some_first _ c.in_err-flags.ensures.emits))

pub returns-clause-emits : goal.returns-clause-emits
unfolding logic_of
returns-clause-emits g c = emits_as (omega arith) (omega arith) (all_then _ c.in_ok-words.ensures.emits (all_last _ c.in_ok-flags.ensures.emits refl))
