use Rattle.tv_core.proofs.Common.{◌≡◌, ◌/◌, ◌≤◌, length, take, arith, ◌∙◌}
use Rattle.std.proofs.lemmas.List.{length-take-le}
use Rattle.tv_container.proofs.Chain.{err_is, refuses_first}
use Rattle.tv_wtns.specs.Values.{AreWords}
use Rattle.tv_wtns.proofs.Ahead.{begins, are_words, ends}
use Rattle.tv_wtns.proofs.values.read_all.Goals as goal

pub returns-in_err-take_values-clause-gives : goal.returns-in_err-take_values-clause-gives
returns-in_err-take_values-clause-gives g c = λ file known piece room.
    let held = c.in_ok-fit.ensures.reads.piece file (rw (← c.loop-left.invariant.outside) at known) (c.loop-left.invariant.piece file known piece) in
    let enough : c.min-some.result ≤ length c.bytes_from.result.now / 8 = omega (arith, c.min-some.ensures, c.as_chunks.ensures.front_len) in
    let words : AreWords (take c.min-some.result c.as_chunks.result.0.now) file c.loop-left.at = are_words _ file _ _ c.min-some.result
    (c.bytes_from.ensures.bytes file held) c.as_chunks.ensures.front enough in
    let n : length (take c.min-some.result c.as_chunks.result.0.now) ≡ c.min-some.result = length-take-le _ _ (omega (arith, c.min-some.ensures)) in
    let before = c.loop-left.invariant.ahead file known piece room _ (begins file _ _ _) in
    rw (err_is c.from_residual-in_err-take_values.result c.from_residual-in_err-take_values.ensures.1)
    (refuses_first _ _ _ (c.in_err-take_values.ensures.gives file words _ c.loop-left.left (omega (arith, n, c.min-some.ensures)) before))

pub loop-left-preserved : goal.loop-left-preserved
loop-left-preserved g c = record {
  outside = c.in_ok-fit.ensures.reads.looks ∙ c.loop-left.invariant.outside;
  place = omega (arith, c.loop-left.invariant.place, c.min-some.ensures);
  below = c.in_ok-take_values.ensures.below c.loop-left.invariant.below;
  piece = λ file known piece.
      c.in_ok-fit.ensures.reads.piece file (rw (← c.loop-left.invariant.outside) at known) (c.loop-left.invariant.piece file known piece);
  ahead = λ file known piece room answer ahead.
      let held = c.in_ok-fit.ensures.reads.piece file (rw (← c.loop-left.invariant.outside) at known) (c.loop-left.invariant.piece file known piece) in
      let enough : c.min-some.result ≤ length c.bytes_from.result.now / 8 = omega (arith, c.min-some.ensures, c.as_chunks.ensures.front_len) in
      let words : AreWords (take c.min-some.result c.as_chunks.result.0.now) file c.loop-left.at = are_words _ file _ _ c.min-some.result
      (c.bytes_from.ensures.bytes file held) c.as_chunks.ensures.front enough in
      let n : length (take c.min-some.result c.as_chunks.result.0.now) ≡ c.min-some.result = length-take-le _ _ (omega (arith, c.min-some.ensures)) in
      let before = c.loop-left.invariant.ahead file known piece room answer ahead in
      rw n at (c.in_ok-take_values.ensures.gives file words answer c.loop-left.left (omega (arith, n, c.min-some.ensures)) before);
}

pub returns-clause-gives : goal.returns-clause-gives
returns-clause-gives g c = λ file known piece room.
    ends _ _ file _ _ _ _ (c.loop-left.invariant.ahead file known piece room _ (begins file _ _ _)) (omega (arith, c.loop-left-test.false))
