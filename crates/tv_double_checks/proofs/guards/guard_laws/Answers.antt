use Rattle.tv_double_checks.proofs.GuardLaws.{guard_sound, guard_complete, guard_normal, guard_sizes, guard_costs}
use Rattle.tv_double_checks.proofs.guards.guard_laws.Goals as goal

pub returns : goal.returns
returns c = record { sound = guard_sound; complete = guard_complete; normal = guard_normal; sizes = guard_sizes; costs = guard_costs }
