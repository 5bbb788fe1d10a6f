use Rattle.tv_numbers.proofs.StepLaws.{numbers_do}
use Rattle.tv_numbers.proofs.numbers_do.Goals as goal

pub returns : goal.returns
returns c = numbers_do
