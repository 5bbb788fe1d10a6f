use Rattle.tv_core.proofs.Common.{◌≡◌, ◌+◌, length, set, sym, ◌∙◌, subst, arith}
use Rattle.tv_double_argument.proofs.Written.{IsPlaced, placed_more, placed_all}
use Rattle.tv_doubles.proofs.Circle.{after_last, after_other, right}
use Rattle.tv_doubles.specs.Rising.{place_at}
use Rattle.tv_doubles.specs.Successors.{index_after}
use Rattle.tv_double_argument.proofs.address_order.next_in.Goals as goal
use Rattle.tv_double_argument.proofs.address_order.next_in.Goals.{then-j-order, else-j-order}

pub index_mut-requires : goal.index_mut-requires
index_mut-requires c =
    let low = (right (length c.args.order.now) c.args.order.now c.requires).below c.loop-j.j c.loop-j-test.true in
    omega (arith, low, c.loop-j.invariant.long)

pub loop-j-preserved : goal.loop-j-preserved
loop-j-preserved c =
    let t : index_after (length c.args.order.now) c.loop-j.j ≡ c.if-j-order.after = elim c.if-j-order.branch [
      | then-j-order w ↦ (after_last (length c.args.order.now) c.loop-j.j w.if-j-order.true ∙ sym w.after-is)
      | else-j-order w ↦ (after_other (length c.args.order.now) c.loop-j.j w.if-j-order.false ∙ sym w.after-is)
    ] in
    subst (λ t. IsPlaced c.args.order.now (c.loop-j.j + 1) (set c.loop-j.found.items (place_at c.args.order.now c.loop-j.j) (place_at c.args.order.now t))) t
    (placed_more c.args.order.now c.requires c.loop-j.j c.loop-j.found.items c.loop-j.invariant c.loop-j-test.true)

pub returns : goal.returns
returns c =
    let all : c.loop-j.j ≡ length c.args.order.now = omega arith in
    placed_all c.args.order.now c.requires c.loop-j.found.items (subst (λ j. IsPlaced c.args.order.now j c.loop-j.found.items) all c.loop-j.invariant)
