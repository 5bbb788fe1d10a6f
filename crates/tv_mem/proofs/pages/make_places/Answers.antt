use Rattle.std.proofs.Common.{◌+◌, ◌∷◌, [], None, length, ap, ◌∙◌}
use Rattle.std.proofs.lemmas.List.{length-append}
use Rattle.tv_mem.proofs.PageLaws.{same_with_a_place}
use Rattle.tv_mem.proofs.pages.make_places.Goals as goal

pub loop-made-preserved : goal.loop-made-preserved
loop-made-preserved c = record {
  same = same_with_a_place _ c.loop-made.table c.push.new.self c.loop-made.invariant.same c.in_ok-push.ensures.items;
  many = ap length c.in_ok-push.ensures.items ∙ length-append c.loop-made.table.items (None ∷ []) ∙ ap (λ n. n + 1) c.loop-made.invariant.many;
}
