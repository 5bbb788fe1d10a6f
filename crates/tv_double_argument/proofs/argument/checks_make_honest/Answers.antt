use Rattle.tv_double_argument.proofs.Sound.{checks_honest}
use Rattle.tv_double_argument.proofs.argument.checks_make_honest.Goals as goal

pub returns : goal.returns
returns c = checks_honest
