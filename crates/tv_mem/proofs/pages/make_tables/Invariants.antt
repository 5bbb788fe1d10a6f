use Rattle.std.proofs.Common.{◌≡◌, ◌≤◌, length}
use Rattle.tv_mem.specs.Pages.{page_in, Same}
use Rattle.tv_mem.proofs.pages.make_tables.Given as goal

abbrev pub invariant-loop-made : goal.invariant-loop-made
invariant-loop-made l = record {
  same : Same (page_in l.initial.tables.items) (page_in l.tables.items);
  many : length l.tables.items ≡ l.made;
  grown : length l.initial.tables.items ≤ l.made;
}
