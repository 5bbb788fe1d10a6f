use Rattle.tv_core.proofs.Common.{◌≡◌, ◌≤◌, ◌-◌, take, drop}
use Rattle.tv_container.specs.Reading.{IsMissing, Known}
use Rattle.tv_container.proofs.window.fill.Given as goal

abbrev pub invariant-loop-held : goal.invariant-loop-held
invariant-loop-held g l = record {
  outside : g.D.Files.seen l.files ≡ g.D.Files.seen l.initial.files;
  there : IsMissing (g.D.Files.seen l.initial.files) l.name → l.held ≡ l.initial.held;
  within : l.held ≤ 65536;
  front : Known (g.D.Files.seen l.initial.files) l.name
      (λ file. take l.initial.held l.initial.bytes ≡ take l.initial.held (drop l.at file) → take l.held l.bytes ≡ take l.held (drop l.at file));
}

abbrev pub decreases-loop-held : goal.decreases-loop-held
decreases-loop-held g l = l.size - l.held
