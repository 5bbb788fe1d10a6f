use Rattle.tv_core.proofs.Common.{sym, ◌∙◌, add-one}
use Rattle.tv_bits.proofs.OrderLaws.{first_difference-zero, first_difference-same, first_difference-apart}
use Rattle.tv_bits.proofs.prefixes.first_difference.Goals as goal
use Rattle.tv_bits.proofs.prefixes.first_difference.Goals.{then-x-y, else-x-y}

pub loop-i-init : goal.loop-i-init
loop-i-init c = sym (first_difference-zero c.args.chunk c.args.x c.args.y)

pub loop-i-preserved : goal.loop-i-preserved
loop-i-preserved c =
    rw add-one (elim c.if-x-y.branch [
      | then-x-y w ↦ w.difference-is ∙ w.saturating_sub-difference.ensures
          ∙ sym (first_difference-apart c.args.chunk c.loop-i.i c.args.x c.args.y w.if-x-y.true)
      | else-x-y w ↦ w.difference-is ∙ c.loop-i.invariant ∙ sym (first_difference-same c.args.chunk c.loop-i.i c.args.x c.args.y w.if-x-y.false)
    ])
