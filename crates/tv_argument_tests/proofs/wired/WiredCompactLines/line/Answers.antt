use Rattle.tv_core.proofs.Common.{◌<◌, sym, ◌∙◌, arith}
use Rattle.tv_argument_tests.proofs.Made.{eight, line_made, line_is}
use Rattle.tv_argument_tests.proofs.wired.WiredCompactLines.line.Goals as goal

pub overflow_mul-first : goal.overflow_mul-first
overflow_mul-first c = omega (arith, eight)

pub overflow_add-first : goal.overflow_add-first
overflow_add-first c = omega (arith, eight)

pub overflow_add-result : goal.overflow_add-result
overflow_add-result c = omega (arith, eight)

pub overflow_add-result-2 : goal.overflow_add-result-2
overflow_add-result-2 c = omega (arith, eight)

pub returns : goal.returns
returns c =
    let low : c.args.i < 8 = omega (arith, eight) in
    record { is = line_made c.args.i ∙ sym (line_is c.args.i low) }
