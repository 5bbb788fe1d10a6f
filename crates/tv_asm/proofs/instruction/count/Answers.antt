use Rattle.std.proofs.Common.{◌≡◌, ◌+◌, ◌<◌, ◌==◌, ◌∙◌, length, ap, sym, arith, rules}
use Rattle.std.proofs.lemmas.Bool.Decides.{nat_tests}
use Rattle.std.specs.List.{count_by}
use Rattle.tv_asm.proofs.OperandLemmas.{length-operands_in}
use Rattle.tv_asm.proofs.instruction.count.Goals as goal

pub returns : goal.returns
returns c =
    let some : 0 < length c.args.text.now = grind (arith, nat_tests) in
    let commas : c.count.result ≡ count_by (λ b. b == 44) c.args.text.now = search rules in
    ap (λ n. n + 1) commas ∙ sym (length-operands_in c.args.text.now some)
