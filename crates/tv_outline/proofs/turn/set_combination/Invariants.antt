use Rattle.tv_core.proofs.Common.{◌≡◌, ◌≤◌, length, take}
use Rattle.tv_outline.specs.Expansion.{combination_in}
use Rattle.tv_outline.proofs.turn.set_combination.Given as goal

-- the combination of the terms so far
abbrev pub invariant-loop-term : goal.invariant-loop-term
invariant-loop-term l = record {
  terms : l.lc ≡ combination_in l.region l.values (take l.term-index l.terms);
  few : length l.lc ≤ l.term-index;
}
