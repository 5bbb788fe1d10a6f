use Rattle.tv_cmp.proofs.CompareLaws.{compare_sound, compare_complete, compare_sizes}
use Rattle.tv_cmp.proofs.comparison.compare_laws.Goals as goal

pub returns : goal.returns
returns c = record { sound = compare_sound; complete = compare_complete; sizes = compare_sizes }
