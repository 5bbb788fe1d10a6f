use Rattle.std.proofs.Common.{◌==◌, ◌∙◌, sym}
use Rattle.std.specs.List.{after_first}
use Rattle.tv_asm.proofs.OperandLemmas.{operand_at-zero, operand_at-suc}
use Rattle.tv_asm.proofs.instruction.operands.Goals as goal

pub returns-clause-first : goal.returns-clause-first
returns-clause-first c = rw (c.trimmed.ensures, c.cut.ensures.before) (sym (operand_at-zero c.args.text.now))

pub returns-clause-second : goal.returns-clause-second
returns-clause-second c =
    let text = c.args.text.now in
    rw (c.trimmed-2.ensures, c.cut-2.ensures.before, c.cut.ensures.remaining)
    (sym (operand_at-suc text 0 ∙ operand_at-zero (after_first (λ b. b == 44) text)))

pub returns-clause-third : goal.returns-clause-third
returns-clause-third c =
    let text = c.args.text.now in
    let rest = after_first (λ b. b == 44) text in
    rw (c.trimmed-3.ensures, c.cut-3.ensures.before, c.cut-2.ensures.remaining, c.cut.ensures.remaining)
    (sym (operand_at-suc text 1 ∙ operand_at-suc rest 0 ∙ operand_at-zero (after_first (λ b. b == 44) rest)))
