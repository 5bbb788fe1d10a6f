use Rattle.tv_core.proofs.Common.{◌∙◌, arith, inl, inr, refl}
use Rattle.tv_shrink.proofs.LayLaws.{laid_after}
use Rattle.tv_shrink.proofs.arena.lay.Goals as goal

pub returns-then-new-size-clause-free : goal.returns-then-new-size-clause-free
returns-then-new-size-clause-free c = inl (refl, omega arith)

pub returns-clause-puts : goal.returns-clause-puts
returns-clause-puts c =
    c.in_ok-extend_from_slice.ensures.items
    ∙ laid_after c.len-start.result c.args.new.now c.args.terms.now.items (omega (arith, c.len-start.ensures))

pub returns-clause-free : goal.returns-clause-free
returns-clause-free c = inr (omega (arith, c.len-start.ensures))
