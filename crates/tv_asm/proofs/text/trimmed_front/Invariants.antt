use Rattle.std.proofs.Common.{◌≡◌, length}
use Rattle.tv_asm.specs.Text.{trimmed_front}
use Rattle.tv_asm.proofs.text.trimmed_front.Given as goal

abbrev pub invariant-loop-rest : goal.invariant-loop-rest
invariant-loop-rest l = trimmed_front l.rest ≡ trimmed_front l.text

abbrev pub decreases-loop-rest : goal.decreases-loop-rest
decreases-loop-rest l = length l.rest
