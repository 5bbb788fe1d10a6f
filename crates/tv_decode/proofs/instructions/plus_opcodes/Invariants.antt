use Rattle.tv_core.proofs.Common.{◌≡◌, ◌+◌, ◌++◌}
use Rattle.tv_core.specs.Below.{weighted}
use Rattle.tv_decode.specs.Instructions.{opcode_weight}
use Rattle.tv_decode.proofs.instructions.plus_opcodes.Given as goal

abbrev pub invariant-loop-i : goal.invariant-loop-i
invariant-loop-i g l = l.lc ≡ l.initial.lc ++ weighted l.second l.i (λ j. opcode_weight g.row.W (j + 1))
