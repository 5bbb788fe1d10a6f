-- Loops of circuits whose turns return nothing.
use Rattle.std.specs.Prelude.{ℕ}
use Rattle.tv_core.specs.Circuits.{Circuit, turns}

-- n pieces one after another, number i, from 0, being `piece i`
abbrev pub sequence : ℕ → (ℕ → Circuit (Unit {0})) → Circuit (Unit {0})
sequence n piece = turns n (λ i _. piece i) tt
