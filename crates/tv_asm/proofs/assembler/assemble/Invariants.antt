use Rattle.std.proofs.Common.{length}
use Rattle.tv_asm.proofs.AssemblyLemmas.{IsAssembled}
use Rattle.tv_asm.proofs.assembler.assemble.Given as goal

abbrev pub invariant-loop-line : goal.invariant-loop-line
invariant-loop-line g l = IsAssembled g.row.W l.labels l.most l.number l.words l.rest l.text

abbrev pub decreases-loop-line : goal.decreases-loop-line
decreases-loop-line g l = length l.rest
