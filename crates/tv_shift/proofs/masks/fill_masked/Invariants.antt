use Rattle.tv_core.proofs.Common.{◌≡◌, ◌/◌, false, GivesAll, each_below}
use Rattle.tv_shift.specs.Masks.{mask_value, masked_value}
use Rattle.tv_shift.proofs.masks.fill_masked.Given as goal

abbrev pub invariant-loop-i : goal.invariant-loop-i
invariant-loop-i g l = GivesAll g.V.Values.giving l.initial.v l.v (each_below l.i (masked_value (mask_value g.row.W l.s l.part) l.x (g.row.W / 4)))
    × (g.V.Values.giving.broken l.v ≡ false)
