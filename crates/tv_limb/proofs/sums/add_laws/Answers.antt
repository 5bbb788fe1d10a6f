use Rattle.tv_limb.proofs.AddLaws.{add_sound, add_complete, add_sizes}
use Rattle.tv_limb.proofs.sums.add_laws.Goals as goal

pub returns : goal.returns
returns c = record { sound = add_sound; complete = add_complete; sizes = add_sizes }
