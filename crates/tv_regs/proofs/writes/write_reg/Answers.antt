use Rattle.tv_core.proofs.Common.{◌≡◌, ◌<◌, length, arith, refl}
use Rattle.tv_core.proofs.Common.{refused_wires, all_then, some_then, some_first, all_last, emits_no_turn, emits_turn, turn_some, emits_here}
use Rattle.std.proofs.lemmas.Grind.{get_or_default_zero}
use Rattle.tv_regs.proofs.Gates.{wires_top-at}
use Rattle.tv_regs.specs.Writes.{write_of, write_reg_of}
use Rattle.tv_regs.proofs.writes.write_reg.Goals as goal

pub loop-i-init : goal.loop-i-init
loop-i-init g c = record { emits = emits_no_turn _ _ c.fresh-v.ensures.emits.grows.whole }

pub loop-i-preserved : goal.loop-i-preserved
unfolding write_of
loop-i-preserved g c =
    let within : c.loop-i.i < length c.args.regs.now = omega arith in
    let turn = rw (c.offset.ensures, get_or_default_zero c.args.regs.now c.loop-i.i c.index-regs-i.result within) at c.in_ok-select_wires.ensures.emits in
    record { emits = emits_turn _ _ _ c.loop-i.invariant.emits (all_last _ turn refl) }

pub select_wires-requires-clause-y_made : goal.select_wires-requires-clause-y_made
select_wires-requires-clause-y_made g c =
    let inside : c.loop-i.i < length c.args.regs.now = omega arith in
    omega (arith, wires_top-at c.args.regs.now c.loop-i.i c.index-regs-i.result inside)

pub returns-in_err-select_wires : goal.returns-in_err-select_wires
unfolding write_reg_of write_of
returns-in_err-select_wires g c =
    let within : c.loop-i.i < 16 = omega arith in
    let inside : c.loop-i.i < length c.args.regs.now = omega arith in
    let write = rw (c.offset.ensures, get_or_default_zero c.args.regs.now c.loop-i.i c.index-regs-i.result inside) at c.in_err-select_wires.ensures.emits in
    let first = emits_here c.fresh-v.ensures.emits.grows.whole c.wires.ensures in
    refused_wires _ _ _ _ c.from_residual.ensures (some_then _ c.fresh-v.ensures.emits (some_then _ first
    (some_first _ (turn_some _ _ _ c.loop-i.invariant.emits within (some_first _ write)))))

pub returns-in_err-tie : goal.returns-in_err-tie
unfolding write_reg_of
returns-in_err-tie g c =
    let all : c.loop-i.i ≡ 16 = omega arith in
    let first = emits_here c.fresh-v.ensures.emits.grows.whole c.wires.ensures in
    let turns = rw all at c.loop-i.invariant.emits in
    refused_wires _ _ _ _ c.from_residual-in_err-tie.ensures (some_then _ c.fresh-v.ensures.emits (some_then _ first (some_then _ turns
    (some_first _ c.in_err-tie.ensures.emits))))

pub returns-clause-emits : goal.returns-clause-emits
unfolding write_reg_of
returns-clause-emits g c =
    let all : c.loop-i.i ≡ 16 = omega arith in
    let first = emits_here c.fresh-v.ensures.emits.grows.whole c.wires.ensures in
    let turns = rw all at c.loop-i.invariant.emits in
    rw c.wires_from.ensures.wires (all_then _ c.fresh-v.ensures.emits (all_then _ first (all_then _ turns (all_last _ c.in_ok-tie.ensures.emits refl))))
