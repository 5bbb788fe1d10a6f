use Rattle.tv_core.proofs.Common.{◌≡◌, arith, refl}
use Rattle.tv_core.proofs.Common.{emits_as, all_then, some_then, some_first, refused_wires, all_last, emits_here, emits_no_turn, emits_turn, turn_some}
use Rattle.tv_shift.specs.Halves.{half_bit_of, halves_of}
use Rattle.tv_shift.proofs.halves.halves.Goals as goal

pub loop-i-init : goal.loop-i-init
loop-i-init g c = record { emits = emits_no_turn _ _ c.requires.room.whole }

pub loop-i-preserved : goal.loop-i-preserved
unfolding half_bit_of
loop-i-preserved g c =
    let one = rw (c.offset.ensures, c.offset-in-loop-i.ensures) at c.in_ok-select_wires.ensures.emits in
    record { emits = emits_turn _ _ _ c.loop-i.invariant.emits (all_last _ one refl) }

pub returns-in_err-select_wires : goal.returns-in_err-select_wires
unfolding halves_of half_bit_of
returns-in_err-select_wires g c =
    let one = rw (c.offset.ensures, c.offset-in-loop-i.ensures) at c.in_err-select_wires.ensures.emits in
    let first = emits_here c.requires.room.whole c.wires.ensures in
    refused_wires _ _ _ _ c.from_residual.ensures
    (some_then _ first (some_first _ (turn_some _ _ _ c.loop-i.invariant.emits c.loop-i-test.true (some_first _ one))))

pub returns-clause-emits : goal.returns-clause-emits
unfolding halves_of
returns-clause-emits g c =
    let all : c.loop-i.i ≡ c.args.n = omega arith in
    let first = emits_here c.requires.room.whole c.wires.ensures in
    let turns = rw all at c.loop-i.invariant.emits in
    emits_as (omega arith) (omega arith) (all_then _ first (all_last _ turns refl))
