use Rattle.tv_double_checks.proofs.WithinCosts.{within_costs}
use Rattle.tv_double_checks.proofs.WithinLaws.{within_sound, within_complete}
use Rattle.tv_double_checks.proofs.WithinNormal.{within_normal}
use Rattle.tv_double_checks.proofs.WithinSizes.{within_sizes}
use Rattle.tv_double_checks.proofs.successors.within_laws.Goals as goal

pub returns : goal.returns
returns c = record { sound = within_sound; complete = within_complete; normal = within_normal; sizes = within_sizes; costs = within_costs }
