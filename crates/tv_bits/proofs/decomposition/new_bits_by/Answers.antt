use Rattle.tv_core.proofs.Common.{◌≡◌, arith, refused, all_then, some_then, some_first, all_last, emits_here, emits_no_turn, emits_turn, turn_some}
use Rattle.tv_core.proofs.Common.{refl, emits_as}
use Rattle.tv_bits.specs.Bits.{new_bit, new_bits_of}
use Rattle.tv_bits.proofs.decomposition.new_bits_by.Goals as goal

pub loop-turn-init : goal.loop-turn-init
loop-turn-init g c = record { emits = emits_no_turn _ _ c.requires.room.whole }

pub loop-turn-preserved : goal.loop-turn-preserved
unfolding new_bit
loop-turn-preserved g c =
    record {
      emits = emits_turn _ _ _ c.loop-turn.invariant.emits (all_then _ c.fresh-w.ensures.emits c.in_ok-bit_by.ensures.emits);
    }

pub returns-in_err-bit_by-clause-emits : goal.returns-in_err-bit_by-clause-emits
unfolding new_bits_of new_bit
returns-in_err-bit_by-clause-emits g c =
    let bit = some_then _ c.fresh-w.ensures.emits c.in_err-bit_by.ensures.emits in
    let first = emits_here c.requires.room.whole c.wires.ensures in
    refused _ _ _ c.from_residual.ensures.1 (some_then _ first (some_first _ (turn_some _ _ _ c.loop-turn.invariant.emits c.loop-turn-test.true bit)))

pub returns-clause-emits : goal.returns-clause-emits
unfolding new_bits_of
returns-clause-emits g c =
    let all : c.loop-turn._turn ≡ c.args.n = omega arith in
    let first = emits_here c.requires.room.whole c.wires.ensures in
    let turns = rw all at c.loop-turn.invariant.emits in
    emits_as (omega arith) (omega arith) (all_then _ first (all_last _ turns refl))
