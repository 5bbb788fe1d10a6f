use Rattle.std.proofs.Common.{◌≡◌, length}
use Rattle.tv_mem.specs.Pages.{page_of, Same}
use Rattle.tv_mem.proofs.pages.make_places.Given as goal

abbrev pub invariant-loop-made : goal.invariant-loop-made
invariant-loop-made l = record {
  same : Same (page_of l.initial.table) (page_of l.table);
  many : length l.table.items ≡ l.made;
}
