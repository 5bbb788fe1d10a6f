use Rattle.std.proofs.Common.{◌≡◌, ◌+◌, ◌^◌, length, true, false, sym, ◌∙◌, ap, arith}
use Rattle.tv_stages.specs.Settings.{walks}
use Rattle.tv_stages.proofs.Marked.{ready, marks_settled, walks_more}
use Rattle.tv_stages.proofs.walks.settle.Goals as goal
use Rattle.tv_stages.proofs.walks.settle.Goals.{then-begins, else-begins}

pub loop-n-init : goal.loop-n-init
unfolding walks
loop-n-init c = c.requires.free

pub walk-requires-clause-settled : goal.walk-requires-clause-settled
walk-requires-clause-settled c =
    (ready c.args.d c.args.q.now c.args.r.now c.requires.inverse c.requires.wide c.loop-n.n c.start_at-i.result c.loop-n.marks c.loop-n.invariant
    c.start_at-i.ensures.is (omega (arith, c.loop-n-test.true, c.stride_of.ensures)) (sym c.begins.ensures ∙ c.if-begins.true)).0

pub walk-requires-clause-begins : goal.walk-requires-clause-begins
walk-requires-clause-begins c =
    (ready c.args.d c.args.q.now c.args.r.now c.requires.inverse c.requires.wide c.loop-n.n c.start_at-i.result c.loop-n.marks c.loop-n.invariant
    c.start_at-i.ensures.is (omega (arith, c.loop-n-test.true, c.stride_of.ensures)) (sym c.begins.ensures ∙ c.if-begins.true)).1

pub loop-n-preserved : goal.loop-n-preserved
loop-n-preserved c =
    let d = c.args.d in
    let q = c.args.q.now in
    elim c.if-begins.branch [
      | then-begins w ↦ walks_more d q c.loop-n.n c.start_at-i.result c.loop-n.marks c.if-begins.marks true c.loop-n.invariant c.start_at-i.ensures.is
          (sym w.if-begins.true ∙ c.begins.ensures) (w.marks-is ∙ w.walk.ensures)
      | else-begins w ↦ walks_more d q c.loop-n.n c.start_at-i.result c.loop-n.marks c.if-begins.marks false c.loop-n.invariant c.start_at-i.ensures.is
          (sym w.if-begins.false ∙ c.begins.ensures) w.marks-is
    ]

pub returns : goal.returns
returns c =
    let d = c.args.d in
    let q = c.args.q.now in
    let last : c.loop-n.n ≡ 2 ^ d + length q = omega (arith, c.loop-n-test.false, c.loop-n.auto.n-end, c.stride_of.ensures) in
    let is = c.loop-n.invariant ∙ ap (λ n. walks d q n) last in
    record { long = ap length is ∙ (marks_settled d q c.args.r.now c.requires.inverse c.requires.wide).long; is = is }
