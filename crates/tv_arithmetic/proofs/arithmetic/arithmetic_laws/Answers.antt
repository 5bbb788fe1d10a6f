use Rattle.tv_arithmetic.proofs.ArithmeticCounts.{arithmetic_sizes, arithmetic_cost_laws}
use Rattle.tv_arithmetic.proofs.ArithmeticFills.{arithmetic_complete}
use Rattle.tv_arithmetic.proofs.ArithmeticLaws.{arithmetic_sound}
use Rattle.tv_arithmetic.proofs.ShiftTests.{shift_test_sound}
use Rattle.tv_arithmetic.proofs.arithmetic.arithmetic_laws.Goals as goal

pub returns : goal.returns
returns c = record {
  sound = arithmetic_sound;
  shift_test = shift_test_sound;
  complete = arithmetic_complete;
  sizes = arithmetic_sizes;
  costs = arithmetic_cost_laws;
}
