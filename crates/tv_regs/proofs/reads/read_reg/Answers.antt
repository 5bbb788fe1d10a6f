use Rattle.tv_core.proofs.Common.{◌≡◌, ◌<◌, length, arith, refused_wires, all_then, some_then, some_first, all_last, emits_no_turn, emits_turn, turn_some, refl}
use Rattle.std.proofs.lemmas.Grind.{get_or_default_zero}
use Rattle.tv_regs.proofs.Gates.{wires_top-at}
use Rattle.tv_regs.specs.Reads.{read_reg_of}
use Rattle.tv_regs.proofs.reads.read_reg.Goals as goal

pub loop-i-init : goal.loop-i-init
loop-i-init g c = record { emits = emits_no_turn _ _ c.fresh-w.ensures.emits.grows.whole }

pub loop-i-preserved : goal.loop-i-preserved
loop-i-preserved g c =
    let within : c.loop-i.i < length c.args.regs.now = omega arith in
    let turn = rw (c.offset.ensures, get_or_default_zero c.args.regs.now c.loop-i.i c.index-regs-i.result within) at c.in_ok-read.ensures.emits in
    record { emits = emits_turn _ _ _ c.loop-i.invariant.emits turn }

pub returns-in_err-read : goal.returns-in_err-read
unfolding read_reg_of
returns-in_err-read g c =
    let within : c.loop-i.i < 16 = omega arith in
    let inside : c.loop-i.i < length c.args.regs.now = omega arith in
    let read = rw (c.offset.ensures, get_or_default_zero c.args.regs.now c.loop-i.i c.index-regs-i.result inside) at c.in_err-read.ensures.emits in
    refused_wires _ _ _ _ c.from_residual.ensures (some_then _ c.fresh-w.ensures.emits (some_first _ (turn_some _ _ _ c.loop-i.invariant.emits within read)))

pub returns-clause-emits : goal.returns-clause-emits
unfolding read_reg_of
returns-clause-emits g c =
    let all : c.loop-i.i ≡ 16 = omega arith in
    let turns = rw all at c.loop-i.invariant.emits in
    all_then _ c.fresh-w.ensures.emits (all_last _ turns refl)

pub read-requires-clause-reg_made : goal.read-requires-clause-reg_made
read-requires-clause-reg_made g c =
    let inside : c.loop-i.i < length c.args.regs.now = omega arith in
    omega (arith, wires_top-at c.args.regs.now c.loop-i.i c.index-regs-i.result inside)
