use Rattle.tv_core.proofs.Common.{◌≡◌, ◌<◌, length, arith, refused_wires, all_then, some_then, some_first, all_last, emits_no_turn, emits_turn, turn_some, refl}
use Rattle.std.proofs.lemmas.Grind.{get_or_default_zero}
use Rattle.tv_regs.proofs.Gates.{wires_top-at}
use Rattle.tv_regs.specs.Triple.{curve_of}
use Rattle.tv_regs.proofs.triple.new_curve.Goals as goal

pub loop-i-init : goal.loop-i-init
loop-i-init g c = record { emits = emits_no_turn _ _ c.fresh-bend.ensures.emits.grows.whole }

pub loop-i-preserved : goal.loop-i-preserved
loop-i-preserved g c =
    let within : c.loop-i.i < length c.args.regs.now = omega arith in
    let turn = rw (get_or_default_zero c.args.regs.now c.loop-i.i c.index-regs-i.result within) at c.in_ok-passes.ensures.emits in
    record { emits = emits_turn _ _ _ c.loop-i.invariant.emits turn }

pub passes-requires-clause-reg_made : goal.passes-requires-clause-reg_made
passes-requires-clause-reg_made g c =
    let inside : c.loop-i.i < length c.args.regs.now = omega arith in
    omega (arith, wires_top-at c.args.regs.now c.loop-i.i c.index-regs-i.result inside)

pub returns-in_err-passes : goal.returns-in_err-passes
unfolding curve_of
returns-in_err-passes g c =
    let within : c.loop-i.i < 16 = omega arith in
    let inside : c.loop-i.i < length c.args.regs.now = omega arith in
    let passes = rw (get_or_default_zero c.args.regs.now c.loop-i.i c.index-regs-i.result inside) at c.in_err-passes.ensures.emits in
    refused_wires _ _ _ _ c.from_residual.ensures (some_then _ c.fresh-curve.ensures.emits (some_then _ c.fresh-slope.ensures.emits
    (some_then _ c.fresh-bend.ensures.emits (some_first _ (turn_some _ _ _ c.loop-i.invariant.emits within passes)))))

pub returns-clause-emits : goal.returns-clause-emits
unfolding curve_of
returns-clause-emits g c =
    let all : c.loop-i.i ≡ 16 = omega arith in
    let turns = rw all at c.loop-i.invariant.emits in
    all_then _ c.fresh-curve.ensures.emits (all_then _ c.fresh-slope.ensures.emits (all_then _ c.fresh-bend.ensures.emits (all_last _ turns refl)))
