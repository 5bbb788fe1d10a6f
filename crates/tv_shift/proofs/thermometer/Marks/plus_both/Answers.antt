use Rattle.tv_core.proofs.Common.{common_steps, arith}
use Rattle.std.proofs.lemmas.List.{append-nil}
use Rattle.tv_core.proofs.BelowLaws.{below-power}
use Rattle.tv_shift.proofs.MarkTerms.{products-more, both-in, both-last}
use Rattle.tv_shift.proofs.thermometer.Marks.plus_both.Goals as goal

pub overflow_sub-marks-then-j-marks : goal.overflow_sub-marks-then-j-marks
overflow_sub-marks-then-j-marks c = omega (arith, c.power-marks.ensures, below-power c.args.k)

pub returns-then-j-marks-clause-terms : goal.returns-then-j-marks-clause-terms
returns-then-j-marks-clause-terms c = grind (arith, common_steps, both-in)

pub returns-then-j-marks-clause-top : goal.returns-then-j-marks-clause-top
returns-then-j-marks-clause-top c = omega (arith, c.offset.ensures, c.plus.ensures.top, c.power-marks.ensures, below-power c.args.k, products-more c.args.k)

pub returns-else-j-marks-clause-terms : goal.returns-else-j-marks-clause-terms
returns-else-j-marks-clause-terms c = grind (arith, common_steps, both-last, append-nil)
