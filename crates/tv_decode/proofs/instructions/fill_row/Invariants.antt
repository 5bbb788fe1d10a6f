use Rattle.tv_core.proofs.Common.{◌≡◌, false, each_below, GivesAll}
use Rattle.tv_bits.specs.OneHot.{one_at}
use Rattle.tv_isa.specs.Opcodes.{place_of}
use Rattle.tv_decode.proofs.instructions.fill_row.Given as goal

abbrev pub invariant-loop-i : goal.invariant-loop-i
invariant-loop-i g l = GivesAll g.V.Values.giving l.initial.v l.v (each_below l.i (one_at (place_of l.k))) × (g.V.Values.giving.broken l.v ≡ false)
