use Rattle.std.proofs.Common.{length, Some, true, not, ◌∙◌, ap, refl, arith, slice_index, set, length-set}
use Rattle.tv_stages.specs.Settings.{mark}
use Rattle.tv_stages.proofs.Walking.{starts, none_is, r_in}
use Rattle.tv_stages.proofs.Indices.{spread_in}
use Rattle.tv_stages.proofs.Marked.{leads_first, leads_on, led_round, led_end}
use Rattle.tv_stages.proofs.WalkSteps.{IsStep, step, q_is, left_some, path_ends}
use Rattle.tv_stages.proofs.walks.walk.Goals as goal
use Rattle.tv_stages.proofs.walks.walk.Goals.{After-flip-i}

pub loop-input-init : goal.loop-input-init
loop-input-init c = record {
  underway = starts (length c.args.q.now) c.args.d c.args.q.now c.args.r.now c.args.start c.args.marks.now c.requires.inverse c.requires.settled
      c.requires.begins;
  leads = leads_first c.args.d c.args.q.now c.args.start c.args.marks.now c.requires.settled.long;
}

pub returns-then-input-q : goal.returns-then-input-q
returns-then-input-q c =
    let L = length c.args.q.now in
    let d = c.args.d in
    let q = c.args.q.now in
    let r = c.args.r.now in
    let i = c.loop-input.i in
    let marks = c.loop-input.marks in
    let u = c.loop-input.invariant.underway in
    let free = none_is (mark marks i) (ap not (c.is_none.ensures ∙ ap not c.loop-input-test.true)) in
    let start = c.args.start in
    let before = c.args.marks.now in
    let inv = c.requires.inverse in
    led_end d q start before i marks c.loop-input.invariant.leads (set marks i (Some true)) (left_some L d q r start before inv i marks u free)
    (path_ends L d q r start before inv i marks u free (omega (arith, c.if-input-q.true, c.flip-input.ensures, q_is L d q r start before inv i marks u)))

pub bounds-marks-j : goal.bounds-marks-j
bounds-marks-j c =
    let L = length c.args.q.now in
    let near = r_in L c.args.d c.args.q.now c.args.r.now c.requires.inverse c.flip-input.result c.if-input-q.false in
    let same = spread_in L c.args.r.now c.flip-input.result c.if-input-q.false in
    omega (arith, near, same, c.loop-input.invariant.underway.long, length-set c.loop-input.marks c.loop-input.i (Some true))

stepped : (c : After-flip-i) → IsStep (length c.args.q.now) c.args.d c.args.q.now c.args.r.now c.args.start c.args.marks.now c.requires.inverse
    c.loop-input.i c.loop-input.marks (slice_index c.args.r.now c.flip-input.result)
stepped c =
    let free = none_is (mark c.loop-input.marks c.loop-input.i) (ap not (c.is_none.ensures ∙ ap not c.loop-input-test.true)) in
    step (length c.args.q.now) c.args.d c.args.q.now c.args.r.now c.args.start c.args.marks.now c.requires.inverse
    c.loop-input.i c.loop-input.marks c.loop-input.invariant.underway free c.flip-input.result _ c.flip-input.ensures c.if-input-q.false refl

pub loop-input-smaller : goal.loop-input-smaller
loop-input-smaller c = (stepped c).less

pub loop-input-preserved : goal.loop-input-preserved
loop-input-preserved c =
    let step = stepped c in
    rw c.flip-i.ensures (record {
      underway = step.underway;
      leads = leads_on c.args.d c.args.q.now c.args.start c.args.marks.now c.loop-input.i c.loop-input.marks c.loop-input.invariant.leads _ _
          step.less step.goes;
    })

pub returns : goal.returns
returns c = led_round c.args.d c.args.q.now c.args.start c.args.marks.now c.loop-input.i c.loop-input.marks c.loop-input.invariant.leads
    (ap not (c.is_none.ensures ∙ ap not c.loop-input-test.false))
