use Rattle.tv_core.proofs.Common.{◌∙◌}
use Rattle.tv_shrink.proofs.Constants.{has_from}
use Rattle.tv_shrink.proofs.row.has_wire.Goals as goal

pub returns : goal.returns
returns c =
    c.is_some.ensures
    ∙ has_from c.args.wire c.args.terms.now c.split.result (λ p. p.0.now) (λ p. p.2.now) (λ p. p.1) c.requires c.split.ensures.parts c.split.ensures.none
