use Rattle.tv_numbers.proofs.RangeLaws.{numbers_stay_in_range}
use Rattle.tv_numbers.proofs.numbers_stay_in_range.Goals as goal

pub returns : goal.returns
returns c = numbers_stay_in_range
