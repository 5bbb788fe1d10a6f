use Rattle.tv_core.proofs.Common.{◌<◌, ◌≤◌, ◌∙◌, None, ap, arith, length, map, sym}
use Rattle.std.proofs.Common.{take_all}
use Rattle.std.specs.Option.{option_map}
use Rattle.std.proofs.lemmas.List.{map_more}
use Rattle.tv_shrink.specs.Spans.{row_at, IsInside}
use Rattle.tv_shrink.proofs.Elements.{each_at}
use Rattle.tv_shrink.proofs.rows.Rows.compacted.Goals as goal

pub copy-requires-clause-inside : goal.copy-requires-clause-inside
copy-requires-clause-inside c =
    rw (c.deref.ensures.value, c.deref-span-items.ensures.value)
    (each_at (IsInside (length c.self.inside.terms.items)) c.self.inside.spans.items c.loop-span.span-index None tt c.self.invariant.inside)

pub loop-span-preserved : goal.loop-span-preserved
loop-span-preserved c =
    let spans = c.self.inside.spans.items in
    let inside : c.loop-span.span-index < length spans = omega (arith, c.loop-span-test.true, ap length c.deref-span-items.ensures.value) in
    let rows = rw (c.loop-span.invariant.rows, c.deref.ensures.value, c.deref-span-items.ensures.value) at c.in_ok-copy.ensures.rows in
    record {
      laid = c.in_ok-copy.ensures.laid;
      rows = rows ∙ sym (map_more (option_map (row_at c.self.inside.terms.items)) spans c.loop-span.span-index None inside);
    }

pub invariant_of-result : goal.invariant_of-result
invariant_of-result c = c.loop-span.invariant.laid

pub returns : goal.returns
returns c =
    let past : length c.self.inside.spans.items ≤ c.loop-span.span-index = omega
    (arith, c.loop-span-test.false, ap length c.deref-span-items.ensures.value) in
    c.loop-span.invariant.rows
    ∙ ap (map (option_map (row_at c.self.inside.terms.items))) (take_all c.loop-span.span-index c.self.inside.spans.items past)
    ∙ c.self.view_is
