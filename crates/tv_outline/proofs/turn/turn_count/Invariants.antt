use Rattle.tv_core.proofs.Common.{◌≡◌, ◌*◌, ◌^◌, ◌<◌, drop}
use Rattle.tv_outline.specs.Expansion.{turn_count}
use Rattle.tv_outline.proofs.turn.turn_count.Given as goal

-- the turns of the loops so far, times those of the rest
abbrev pub invariant-loop-count : goal.invariant-loop-count
invariant-loop-count l = record {
  is : l.turns * turn_count (drop l.count-index l.counts) ≡ turn_count l.counts;
  few : l.turns < 2 ^ 32;
}
