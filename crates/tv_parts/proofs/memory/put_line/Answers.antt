use Rattle.tv_core.proofs.Common.{all_then, some_then, some_first, refused_wires, all_last, refl}
use Rattle.tv_parts.specs.Memory.{located_line}
use Rattle.tv_parts.proofs.memory.put_line.Goals as goal

pub returns-in_err-located : goal.returns-in_err-located
unfolding located_line
returns-in_err-located g c = refused_wires _ _ _ _ c.from_residual.ensures (some_first _ c.in_err-located.ensures.emits)

pub returns-in_err-cell : goal.returns-in_err-cell
unfolding located_line
returns-in_err-cell g c =
    refused_wires _ _ _ _ c.from_residual-in_err-cell.ensures (some_then _ c.in_ok-located.ensures.emits (some_first _ c.in_err-cell.ensures.emits))

pub returns-in_err-old : goal.returns-in_err-old
unfolding located_line
returns-in_err-old g c =
    refused_wires _ _ _ _ c.from_residual-in_err-old.ensures (some_then _ c.in_ok-located.ensures.emits (some_then _ c.in_ok-cell.ensures.emits
    (some_first _ c.in_err-old.ensures.emits)))

pub returns-clause-emits : goal.returns-clause-emits
unfolding located_line
returns-clause-emits g c = all_then _ c.in_ok-located.ensures.emits (all_then _ c.in_ok-cell.ensures.emits (all_last _ c.in_ok-old.ensures.emits refl))
