use Rattle.tv_core.proofs.Common.{◌≡◌, ◌%◌, map, take}
use Rattle.tv_core.specs.declared.field.TheConstants.{P}
use Rattle.tv_plan.proofs.tapes.residues.Given as goal

abbrev pub invariant-loop-number : goal.invariant-loop-number
invariant-loop-number l = l.residues.items ≡ map (λ n. n % P) (take l.number-index l.numbers)
