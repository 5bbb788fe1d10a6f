use Rattle.tv_core.proofs.Common.{◌≡◌, length, get_or, sym, ◌∙◌, ap, arith, emits_no_turn, refused_whole, emits_as, top}
use Rattle.std.proofs.lemmas.List.{get_or_default}
use Rattle.tv_scan.proofs.ScanChain.{one_turn, look_refused, last_put}
use Rattle.tv_lines.specs.Placed.{no_line}
use Rattle.tv_scan.proofs.scans.scan.Goals as goal

pub loop-before-init : goal.loop-before-init
loop-before-init g c = record {
  emits = rw c.empty-word.ensures (emits_no_turn _ _ c.requires.room.whole);
  made = omega (arith, ap top c.empty-word.ensures);
  short = omega (arith, ap length c.empty-word.ensures);
}

pub loop-before-preserved : goal.loop-before-preserved
loop-before-preserved g c =
    let grown = c.in_ok-w.ensures.emits.grows in
    let there : get_or c.args.earlier.now c.loop-before.before-index no_line
    ≡ c.before-item.result = get_or_default c.args.earlier.now c.loop-before.before-index no_line c.before-item.result (omega arith)
    ∙ sym c.before-item.is in
    let made = c.set_wire.ensures.terms in
    record {
      emits = emits_as (omega arith) (omega arith) (one_turn c.args.earlier.now c.args.line.now c.loop-before.before-index there
          c.loop-before.invariant.emits c.in_ok-w.ensures.emits made);
      made = omega (arith, ap top made, c.in_ok-w.ensures.below);
      short = omega (arith, ap length made);
    }

pub returns-in_err-w : goal.returns-in_err-w
returns-in_err-w g c =
    let there : get_or c.args.earlier.now c.loop-before.before-index no_line
    ≡ c.before-item.result = get_or_default c.args.earlier.now c.loop-before.before-index no_line c.before-item.result (omega arith)
    ∙ sym c.before-item.is in
    refused_whole _ _ _ c.from_residual.ensures (look_refused c.args.earlier.now c.args.line.now c.loop-before.before-index there
    c.loop-before.invariant.emits (omega arith) c.in_err-w.ensures.emits)

pub returns : goal.returns
returns g c = record {
  emits = last_put c.args.earlier.now c.args.line.now c.loop-before.before-index _ _ (omega arith) (omega arith) (omega arith)
      c.loop-before.invariant.emits (rw c.constant.ensures at c.put.ensures.emits);
}
