use Rattle.std.proofs.Common.{◌≡◌, length, sym, ◌∙◌, ap, subst, arith, refl, add-one}
use Rattle.tv_stages.specs.Settings.{asked, within}
use Rattle.tv_stages.specs.Stages.{height}
use Rattle.tv_stages.proofs.DepthBits.{AreSetBelow, asked_now, set_next, all_set}
use Rattle.tv_stages.proofs.settings.set_all.Goals as goal

pub loop-d-init : goal.loop-d-init
unfolding asked
loop-d-init c = record {
  asks = refl;
  back = c.invert.ensures;
  marks_long = c.requires.marks_long;
  long = c.requires.long;
  set = λ l at early deep few. absurd (omega arith);
}

pub set_depth-requires-clause-inverse : goal.set_depth-requires-clause-inverse
set_depth-requires-clause-inverse c =
    asked_now c.args.net c.args.q.now c.requires.permutes c.loop-d.d c.loop-d.q c.loop-d.r c.loop-d.invariant.asks
    (omega (arith, c.loop-d-test.true, c.height-d-end.ensures.is)) c.loop-d.invariant.back

pub loop-d-preserved : goal.loop-d-preserved
unfolding asked
loop-d-preserved c =
    let p = c.args.q.now in
    let d = c.loop-d.d in
    let asks = c.loop-d.invariant.asks in
    record {
      asks = c.set_depth.ensures.within ∙ ap (λ q. within d q) asks ∙ ap (λ n. asked p n) (sym (add-one d));
      back = c.set_depth.ensures.back;
      marks_long = c.set_depth.ensures.marks_long ∙ c.loop-d.auto.q;
      long = c.set_depth.ensures.set.long ∙ c.loop-d.invariant.long;
      set = set_next c.args.net p c.requires.permutes d c.loop-d.q c.loop-d.r asks (omega (arith, c.loop-d-test.true, c.height-d-end.ensures.is))
          c.loop-d.bits c.set_depth.new.bits c.loop-d.invariant.set c.set_depth.ensures.set;
    }

pub returns : goal.returns
returns c =
    let p = c.args.q.now in
    let last : c.loop-d.d ≡ height (length p) = omega (arith, c.loop-d-test.false, c.loop-d.auto.d-end, c.height-d-end.ensures.is) in
    all_set c.args.net p c.requires.permutes c.loop-d.bits c.loop-d.invariant.long
    (subst (λ d. AreSetBelow c.args.net p d c.loop-d.bits) last c.loop-d.invariant.set)
