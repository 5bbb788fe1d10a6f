use Rattle.tv_core.proofs.Common.{◌≡◌, ◌<◌, length, arith, refl}
use Rattle.tv_core.proofs.Common.{refused_wires, all_then, some_then, some_first, all_last, emits_no_turn, emits_turn, turn_some, emits_here}
use Rattle.std.proofs.lemmas.Grind.{get_or_default_zero}
use Rattle.tv_regs.proofs.Gates.{wires_top-at}
use Rattle.tv_regs.specs.Update.{update_of}
use Rattle.tv_regs.proofs.update.update_register.Goals as goal

pub loop-i-init : goal.loop-i-init
loop-i-init g c = record { emits = emits_no_turn _ _ c.requires.room.whole }

pub loop-i-preserved : goal.loop-i-preserved
loop-i-preserved g c =
    let within : c.loop-i.i < length c.args.regs.now = omega arith in
    let turn = rw (get_or_default_zero c.args.regs.now c.loop-i.i c.index-regs-i.result within) at c.in_ok-stays.ensures.emits in
    record { emits = emits_turn _ _ _ c.loop-i.invariant.emits turn }

pub stays-requires-clause-reg_made : goal.stays-requires-clause-reg_made
stays-requires-clause-reg_made g c =
    let inside : c.loop-i.i < length c.args.regs.now = omega arith in
    omega (arith, wires_top-at c.args.regs.now c.loop-i.i c.index-regs-i.result inside)

pub returns-in_err-stays : goal.returns-in_err-stays
unfolding update_of
returns-in_err-stays g c =
    let within : c.loop-i.i < 16 = omega arith in
    let inside : c.loop-i.i < length c.args.regs.now = omega arith in
    let stays = rw (get_or_default_zero c.args.regs.now c.loop-i.i c.index-regs-i.result inside) at c.in_err-stays.ensures.emits in
    let first = emits_here c.requires.room.whole c.wires.ensures in
    refused_wires _ _ _ _ c.from_residual.ensures (some_then _ first (some_first _ (turn_some _ _ _ c.loop-i.invariant.emits within stays)))

pub returns-in_err-put : goal.returns-in_err-put
unfolding update_of
returns-in_err-put g c =
    let all : c.loop-i.i ≡ 16 = omega arith in
    let first = emits_here c.requires.room.whole c.wires.ensures in
    let turns = rw all at c.loop-i.invariant.emits in
    let last = rw (c.set_wire.ensures.terms, c.set_rise.ensures.terms, c.set_sum_rise.ensures.terms, c.set_sum.ensures.terms) at c.in_err-put.ensures.emits in
    refused_wires _ _ _ _ c.from_residual-in_err-put.ensures (some_then _ first (some_then _ turns (some_first _ last)))

pub returns-clause-emits : goal.returns-clause-emits
unfolding update_of
returns-clause-emits g c =
    let all : c.loop-i.i ≡ 16 = omega arith in
    let first = emits_here c.requires.room.whole c.wires.ensures in
    let turns = rw all at c.loop-i.invariant.emits in
    let last = rw (c.set_wire.ensures.terms, c.set_rise.ensures.terms, c.set_sum_rise.ensures.terms, c.set_sum.ensures.terms) at c.in_ok-put.ensures.emits in
    rw c.wires_from.ensures.wires (all_then _ first (all_then _ turns (all_last _ last refl)))
