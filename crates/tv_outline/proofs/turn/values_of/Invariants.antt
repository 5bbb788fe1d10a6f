use Rattle.tv_core.proofs.Common.{◌≡◌, ◌++◌, ◌<◌, drop, length}
use Rattle.tv_outline.specs.Expansion.{digits_of, turn_count}
use Rattle.tv_outline.proofs.turn.values_of.Given as goal

-- the digits so far, and those that the rest of the turn's number writes
abbrev pub invariant-loop-count : goal.invariant-loop-count
invariant-loop-count l = record {
  size : l.size ≡ turn_count (drop l.count-index l.region.counts.items);
  some : 0 < l.size;
  digits : l.values.items ++ digits_of (drop l.count-index l.region.counts.items) l.rest ≡ digits_of l.region.counts.items l.fn.turn;
  long : length l.values.items ≡ l.count-index;
}
