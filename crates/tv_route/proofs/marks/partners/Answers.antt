use Rattle.tv_core.proofs.Common.{ℕ, ◌+◌, ◌*◌, List, set, sym, ◌∙◌, ap, slice_index}
use Rattle.tv_route.proofs.Steps.{partners_more, partners_none}
use Rattle.tv_route.proofs.marks.partners.Goals as goal

pub loop-j-init : goal.loop-j-init
loop-j-init c = c.in_ok-found.ensures.items ∙ sym (partners_none c.args.p.now)

pub loop-j-preserved : goal.loop-j-preserved
loop-j-preserved c =
    let a = slice_index c.args.p.now (2 * c.loop-j.j) in
    let b = slice_index c.args.p.now (2 * c.loop-j.j + 1) in
    ap (λ (l : List ℕ). set (set l a b) b a) c.loop-j.invariant ∙ sym (partners_more c.args.p.now c.loop-j.j)
