use Rattle.tv_core.proofs.Common.{some_then, some_first, refused, all_last, all_then, emits_as, refl, arith}
use Rattle.tv_block.specs.Block.{block_of}
use Rattle.tv_block.proofs.constraints.step.Goals as goal

pub returns-in_err-computed-clause-emits : goal.returns-in_err-computed-clause-emits
unfolding block_of
returns-in_err-computed-clause-emits g c time = refused _ _ _ c.from_residual.ensures.1 (some_first _ (some_first _ c.in_err-computed.ensures.emits))

pub returns-in_err-acted-clause-emits : goal.returns-in_err-acted-clause-emits
unfolding block_of
returns-in_err-acted-clause-emits g c time =
    refused _ _ _ c.from_residual-in_err-acted.ensures.1 (some_first _ (some_then _ c.in_ok-computed.ensures.emits
    (some_first _ c.in_err-acted.ensures.emits)))

pub returns-clause-emits : goal.returns-clause-emits
unfolding block_of
returns-clause-emits g c time =
    let acted = all_then _ c.in_ok-computed.ensures.emits (all_last _ c.in_ok-acted.ensures.emits refl) in
    rw c.opcode_wire.ensures (emits_as (omega arith) (omega arith) (all_last _ acted refl))
