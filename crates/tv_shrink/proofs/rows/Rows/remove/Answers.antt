use Rattle.tv_core.proofs.Common.{◌∙◌, None, ap, length, set}
use Rattle.std.specs.Option.{option_map}
use Rattle.std.proofs.lemmas.List.{map-set}
use Rattle.tv_shrink.specs.Spans.{row_at}
use Rattle.tv_shrink.proofs.LayLaws.{laid_dropped}
use Rattle.tv_shrink.proofs.rows.Rows.remove.Goals as goal

pub returns : goal.returns
returns c = map-set (option_map (row_at c.self.inside.terms.items)) c.self.inside.spans.items c.args.at None
    ∙ ap (λ rows. set rows c.args.at None) c.self.view_is

pub invariant_of-self : goal.invariant_of-self
invariant_of-self c = laid_dropped (length c.self.inside.terms.items) c.self.inside.spans.items c.args.at c.self.invariant
