use Rattle.std.proofs.Common.{◌+◌, ◌∷◌, [], length, ap, sym, subst, ◌∙◌, arith}
use Rattle.std.proofs.lemmas.List.{length-append}
use Rattle.tv_mem.proofs.PageLaws.{same_with_a_table}
use Rattle.tv_mem.specs.Pages.{page_in, Same}
use Rattle.tv_mem.proofs.pages.make_tables.Goals as goal

pub loop-made-preserved : goal.loop-made-preserved
loop-made-preserved c = record {
  same = subst (λ l. Same (page_in c.args.tables.now.items) (page_in l)) (sym c.in_ok-push.ensures.items)
      (same_with_a_table _ c.loop-made.tables.items c.new.result c.loop-made.invariant.same c.new.ensures.items);
  many = ap length c.in_ok-push.ensures.items ∙ length-append c.loop-made.tables.items (c.new.result ∷ []) ∙ ap (λ n. n + 1) c.loop-made.invariant.many;
  grown = omega arith;
}
