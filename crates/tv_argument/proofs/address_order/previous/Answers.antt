use Rattle.tv_core.proofs.Common.{◌≡◌, ◌+◌, length, set, sym, ◌∙◌, subst, arith}
use Rattle.tv_argument.proofs.Written.{IsPlaced, placed_more, placed_all, before_zero, before_some}
use Rattle.tv_argument.specs.Order.{index_before, place_at}
use Rattle.tv_argument.proofs.address_order.previous.Goals as goal
use Rattle.tv_argument.proofs.address_order.previous.Goals.{then-j-eq0, else-j-eq0}

pub loop-j-preserved : goal.loop-j-preserved
loop-j-preserved c =
    let t : index_before (length c.args.order.now) c.loop-j.j ≡ c.if-j-eq0.before = elim c.if-j-eq0.branch [
      | then-j-eq0 w ↦ (before_zero (length c.args.order.now) c.loop-j.j w.if-j-eq0.true ∙ sym w.before-is)
      | else-j-eq0 w ↦ (before_some (length c.args.order.now) c.loop-j.j w.if-j-eq0.false ∙ sym w.before-is)
    ] in
    subst (λ t. IsPlaced c.args.order.now (c.loop-j.j + 1) (set c.loop-j.found.items (place_at c.args.order.now c.loop-j.j) (place_at c.args.order.now t))) t
    (placed_more c.args.order.now c.loop-j.j c.loop-j.found.items c.requires c.loop-j.invariant c.loop-j-test.true)

pub returns : goal.returns
returns c =
    let all : c.loop-j.j ≡ length c.args.order.now = omega arith in
    placed_all c.args.order.now c.loop-j.found.items c.requires (subst (λ j. IsPlaced c.args.order.now j c.loop-j.found.items) all c.loop-j.invariant)
