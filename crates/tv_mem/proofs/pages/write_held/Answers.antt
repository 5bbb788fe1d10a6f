use Rattle.std.proofs.Common.{None, option_map, ap, ◌∙◌}
use Rattle.std.specs.Prelude.{slice_set, slice_index_or}
use Rattle.std.specs.Box.{box_value}
use Rattle.std.proofs.lemmas.List.{set-get_or}
use Rattle.tv_mem.proofs.pages.write_held.Goals as goal

-- a place that was looked at holds what it did
pub returns-in_default-clause-same : goal.returns-in_default-clause-same
returns-in_default-clause-same c =
    λ e q. ap (λ l. option_map box_value (slice_index_or l q None))
    (ap (slice_set c.args.table.now.items c.args.place) c.index_mut.ensures.value ∙ set-get_or c.args.table.now.items c.args.place c.index_mut.result.now)
