use Rattle.tv_core.proofs.Common.{◌≡◌, ℕ, ◌+◌, ◌<◌, length, get_or}
use Rattle.tv_network.specs.Slots.{IsLevel}
use Rattle.tv_network.specs.Stages.{wires_before}
use Rattle.tv_network.specs.declared.levels.Level.{Level}
use Rattle.tv_network.proofs.levels.Levels.new.Given as goal

abbrev pub invariant-loop-l : goal.invariant-loop-l
invariant-loop-l k = record {
  start : k.start ≡ k.first + wires_before k.network k.l;
  long : length k.levels ≡ 49;
  each : (l : ℕ) (level : Level) → l < k.l → level ≡ get_or k.levels l level → IsLevel k.network k.first l level;
}
