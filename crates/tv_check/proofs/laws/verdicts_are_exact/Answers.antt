use Rattle.tv_check.proofs.Verdicts.{yes_exactly, no_exactly}
use Rattle.tv_check.proofs.laws.verdicts_are_exact.Goals as goal

pub returns : goal.returns
returns c = record { yes = yes_exactly; no = no_exactly }
