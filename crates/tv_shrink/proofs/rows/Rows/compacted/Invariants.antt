use Rattle.tv_core.proofs.Common.{◌≡◌, length, map, take}
use Rattle.std.specs.Option.{option_map}
use Rattle.tv_shrink.specs.Spans.{row_at, AreLaid}
use Rattle.tv_shrink.proofs.rows.Rows.compacted.Given as goal

abbrev pub invariant-loop-span : goal.invariant-loop-span
invariant-loop-span l = record {
  laid : AreLaid (length l.terms.items) l.spans.items;
  rows : map (option_map (row_at l.terms.items)) l.spans.items
      ≡ map (option_map (row_at l.self-inside.terms.items)) (take l.span-index l.self-inside.spans.items);
}
