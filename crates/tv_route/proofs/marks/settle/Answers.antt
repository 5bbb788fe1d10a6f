use Rattle.tv_core.proofs.Common.{◌≡◌, true, false, not, sym, ◌∙◌, ap, arith}
use Rattle.tv_route.proofs.Steps.{walks_none, walks_more}
use Rattle.tv_route.proofs.marks.settle.Goals as goal
use Rattle.tv_route.proofs.marks.settle.Goals.{then-is_none, else-is_none}

pub loop-j-init : goal.loop-j-init
loop-j-init c = sym (walks_none c.args.partner.now c.args.n c.walk.new.marks)

pub loop-j-preserved : goal.loop-j-preserved
loop-j-preserved c =
    elim c.if-is_none.branch [
      | then-is_none w ↦
          w.marks-is ∙ w.walk-then-is_none.ensures
          ∙ sym (walks_more c.args.partner.now c.args.n c.loop-j.j c.walk.new.marks c.loop-j.marks true c.loop-j.invariant
          (ap not (c.is_none.ensures ∙ ap not w.if-is_none.true)))
      | else-is_none w ↦
          w.marks-is
          ∙ sym (walks_more c.args.partner.now c.args.n c.loop-j.j c.walk.new.marks c.loop-j.marks false c.loop-j.invariant
          (ap not (c.is_none.ensures ∙ ap not w.if-is_none.false)))
    ]

pub returns : goal.returns
returns c =
    let all : c.loop-j.j ≡ c.args.n = omega arith in
    rw (all, c.walk.ensures) at c.loop-j.invariant
