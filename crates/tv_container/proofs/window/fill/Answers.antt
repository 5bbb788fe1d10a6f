use Rattle.tv_core.proofs.Common.{◌≤◌, length, arith, rules, refl}
use Rattle.std.proofs.lemmas.List.{length-take-le}
use Rattle.tv_container.proofs.Pieces.{read_gives, read_there, piece_grows}
use Rattle.tv_container.proofs.window.fill.Goals as goal

pub returns-then-count-eq0-clause-end : goal.returns-then-count-eq0-clause-end
returns-then-count-eq0-clause-end g c = λ file known below.
    let gives = read_gives _ _ _ _ file _ _ _ (rw c.if-count-eq0.true at c.in_ok-count.ensures) c.loop-held.invariant.outside known in
    omega (arith, gives.none refl, c.read.auto.into)

pub loop-held-preserved : goal.loop-held-preserved
loop-held-preserved g c = record {
  outside = search rules;
  there = λ missing. absurd (read_there _ _ _ _ _ _ _ c.in_ok-count.ensures c.loop-held.invariant.outside missing);
  within = omega (arith, c.in_ok-count.ensures.within, c.read.auto.into);
  front = λ file known start.
      let gives = read_gives _ _ _ _ file _ _ _ c.in_ok-count.ensures c.loop-held.invariant.outside known in
      let here : c.loop-held.held ≤ length c.loop-held.bytes = omega arith in
      piece_grows _ _ _ file _ _ _ (length-take-le _ _ here) c.in_ok-count.ensures.within (c.loop-held.invariant.front file known start) gives.front;
}
