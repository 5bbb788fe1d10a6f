use Rattle.tv_core.proofs.Common.{◌≡◌, ◌%◌, ◌^◌, map, take}
use Rattle.tv_plan.proofs.tapes.words_from.Given as goal

abbrev pub invariant-loop-number : goal.invariant-loop-number
invariant-loop-number l = l.words ≡ map (λ n. n % 2 ^ 32) (take l.number-index l.numbers)
