use Rattle.tv_core.proofs.Common.{◌≡◌, ◌≢◌, ◌∙◌, ◌+◌, ◌<◌, ℕ, ap, arith, get_or, length}
use Rattle.tv_r1cs_write.proofs.Others.{all_ahead, passed, waiting}
use Rattle.tv_r1cs_write.specs.Bytes.{others}
use Rattle.tv_shrink.proofs.Gone.{lowered_by, values_more}
use Rattle.tv_shrink.proofs.numbers.lower_first.Goals as goal
use Rattle.tv_shrink.proofs.numbers.lower_first.Goals.{then-next-gone+then-gone-next, else-next-gone, else-next-gone-via-then-next-gone+else-gone-next}
use Rattle.tv_shrink.proofs.numbers.lower_first.Goals.{else-next-gone-via-else-next-gone}

pub loop-wire-init : goal.loop-wire-init
unfolding others
loop-wire-init c = record {
  ahead = all_ahead c.args.gone.now c.requires;
  both = omega arith;
  each = ap length c.in_ok-first.ensures.items;
  so_far = λ w h. absurd (omega arith);
}

pub loop-wire-preserved : goal.loop-wire-preserved
loop-wire-preserved c =
    let n = c.loop-wire.wire in
    let gone = c.args.gone.now in
    let next = c.loop-wire.next in
    let ahead = c.loop-wire.invariant.ahead in
    let each : length c.push.new.self.items ≡ n + 1 = grind arith in
    let so_far : (v : ℕ) → v < n + 1 → get_or c.push.new.self.items v 0 ≡ length (others v gone) = λ v h.
    ap (λ xs. get_or xs v 0) c.in_ok-push.ensures.items
    ∙ values_more (λ u. length (others u gone)) c.loop-wire.first.items n v _ c.loop-wire.invariant.each c.loop-wire.invariant.so_far
    (omega (arith, c.loop-wire.invariant.both)) h in
    elim c.if-next-gone.branch [
      | then-next-gone+then-gone-next w ↦
          let inside : next < length gone = omega (arith, w.if-next-gone.true) in
          let same : get_or gone next 0 ≡ n = omega (arith, w.if-gone-next.true) in
          record {
            ahead = rw w.next-is (passed n gone next ahead inside same);
            both = rw w.next-is (lowered_by gone (n + 1) (next + 1) (passed n gone next ahead inside same));
            each = each;
            so_far = so_far;
          }
      | else-next-gone w ↦
          let apart : next < length gone → get_or gone next 0 ≢ n = λ inside same. elim w.else-next-gone.branch [
            | else-next-gone-via-then-next-gone+else-gone-next v ↦ absurd (v.if-gone-next.false same)
            | else-next-gone-via-else-next-gone v ↦ absurd (omega (arith, v.if-next-gone.false))
          ] in
          record {
            ahead = rw w.next-is (waiting n gone next ahead apart);
            both = rw w.next-is (lowered_by gone (n + 1) next (waiting n gone next ahead apart));
            each = each;
            so_far = so_far;
          }
    ]
