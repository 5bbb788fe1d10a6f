use Rattle.tv_results.proofs.ResultFills.{results_sound, results_complete, results_sizes, results_costs}
use Rattle.tv_results.proofs.results.results_laws.Goals as goal

pub returns : goal.returns
returns c = record { sound = results_sound; complete = results_complete; sizes = results_sizes; costs = results_costs }
