use Rattle.tv_core.proofs.Common.{ℕ, None, arith, subst, get_or, Circuit, PutsAll}
use Rattle.tv_container.proofs.Chain.{err_is}
use Rattle.tv_core.proofs.Chain.{puts_no_turn, puts_turn, turn_refused}
use Rattle.tv_core.specs.Sinks.{PutsSome}
use Rattle.tv_shrink.specs.Emission.{row_circuit}
use Rattle.tv_shrink.proofs.Puts.{row_count_few}
use Rattle.tv_shrink.proofs.emission.put_rows.Goals as goal

pub loop-at-init : goal.loop-at-init
loop-at-init g c = record {
  puts = puts_no_turn g.S.Sink.meaning c.args.s.now (λ i _. row_circuit (get_or c.args.rows.now i None)) tt;
  wires = omega arith;
  constraints = omega arith;
  whole = c.requires.room.whole;
}

pub loop-at-preserved : goal.loop-at-preserved
loop-at-preserved g c =
    let m = g.S.Sink.meaning in
    let piece : ℕ → Unit {0} → Circuit (Unit {0}) = λ i _. row_circuit (get_or c.args.rows.now i None) in
    let grown = c.in_ok-put_row.ensures.emits.grows in
    let is = c.get.ensures in
    let one = subst (λ row. PutsAll m c.loop-at.s c.put_row.new.s (row_circuit row) tt) is c.in_ok-put_row.ensures.emits.puts in
    let few = row_count_few c.get.result in
    record {
      puts = puts_turn m c.loop-at.at piece tt tt tt c.args.s.now c.loop-at.s c.put_row.new.s c.loop-at.invariant.puts one;
      wires = omega (arith, grown.wires, c.loop-at.invariant.wires);
      constraints = omega (arith, grown.constraints, few, c.loop-at.invariant.constraints);
      whole = grown.whole;
    }

pub returns-in_err-put_row-clause-puts : goal.returns-in_err-put_row-clause-puts
returns-in_err-put_row-clause-puts g c =
    let m = g.S.Sink.meaning in
    let piece : ℕ → Unit {0} → Circuit (Unit {0}) = λ i _. row_circuit (get_or c.args.rows.now i None) in
    let is = c.get.ensures in
    let one = subst (λ row. PutsSome m c.loop-at.s c.put_row.new.s (row_circuit row) c.in_err-put_row.field-0.0) is c.in_err-put_row.ensures.emits in
    rw (err_is c.from_residual.result c.from_residual.ensures.1)
    (turn_refused m _ _ piece tt tt _ _ _ _ (omega (arith, c.loop-at-test.true)) c.loop-at.invariant.puts one)
