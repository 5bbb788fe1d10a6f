use Rattle.tv_core.proofs.Common.{some_then, some_first, refused_wires, then_in}
use Rattle.tv_parts.specs.Memory.{new_of}
use Rattle.tv_parts.proofs.memory.put_new.Goals as goal

pub returns-in_err-change : goal.returns-in_err-change
unfolding new_of
returns-in_err-change g c = refused_wires _ _ _ _ c.from_residual.ensures (some_first _ c.in_err-change.ensures.emits)

pub returns-in_err-changed : goal.returns-in_err-changed
unfolding new_of
returns-in_err-changed g c =
    refused_wires _ _ _ _ c.from_residual-in_err-changed.ensures (some_then _ c.in_ok-change.ensures.emits (some_first _ c.in_err-changed.ensures.emits))

pub returns-clause-emits : goal.returns-clause-emits
unfolding new_of
returns-clause-emits g c =
    then_in _ _ _ _ _ c.in_ok-change.ensures.emits (then_in _ _ _ _ _ c.in_ok-changed.ensures.emits c.put_after.ensures.emits)
