use Rattle.tv_core.proofs.Common.{sym, ◌∙◌}
use Rattle.std.specs.Cmp.Lexicographic.{pointwise_decides}
use Rattle.tv_outline.proofs.ListLaws.{terms_decided}
use Rattle.tv_outline.proofs.place.is_same.Goals as goal

pub returns : goal.returns
returns c =
    let same = pointwise_decides terms_decided c.args.x.now c.args.y.now in
    (λ h. same.0 (sym c.eq.ensures ∙ h), λ h. c.eq.ensures ∙ same.1 h)
