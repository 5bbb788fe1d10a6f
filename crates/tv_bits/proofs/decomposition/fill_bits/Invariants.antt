use Rattle.tv_core.proofs.Common.{◌≡◌, false, GivesAll}
use Rattle.tv_bits.specs.Bits.{bits_values}
use Rattle.tv_bits.proofs.decomposition.fill_bits.Given as goal

abbrev pub invariant-loop-i : goal.invariant-loop-i
invariant-loop-i g l = GivesAll g.V.Values.giving l.initial.v l.v (bits_values l.x l.i) × (g.V.Values.giving.broken l.v ≡ false)
