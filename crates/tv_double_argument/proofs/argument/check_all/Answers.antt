use Rattle.tv_core.proofs.Common.{arith, some_first, refused_whole, then_in, emits_in}
use Rattle.tv_double_argument.proofs.Made.{output_made}
use Rattle.tv_double_argument.proofs.argument.check_all.Goals as goal

pub returns-in_err-check_each : goal.returns-in_err-check_each
returns-in_err-check_each g c = refused_whole _ _ _ c.from_residual.ensures (some_first _ c.in_err-check_each.ensures.emits)

pub last_line-requires-clause-item : goal.last_line-requires-clause-item
last_line-requires-clause-item g c =
    let all = g.L.DoubleLines.lines c.args.lines.now in
    rw c.set_item.ensures (output_made c.args.outputs.now.network c.args.outputs.now.first _ (g.S.Sink.meaning.wires c.check_each.new.s)
    (omega (arith, c.requires.many, c.requires.some, c.count.ensures)) (omega (arith, c.requires.below, c.in_ok-check_each.ensures.emits.grows.wires)))

pub returns : goal.returns
returns g c = record {
  emits = emits_in _ _ _ _ _ (omega arith) (omega arith)
      (then_in _ _ _ _ _ c.in_ok-check_each.ensures.emits (rw (c.set_item.ensures, c.count.ensures) at c.last_line.ensures.emits));
}
