use Rattle.tv_limb.proofs.SubLaws.{sub_sound, sub_complete, sub_sizes}
use Rattle.tv_limb.proofs.differences.sub_laws.Goals as goal

pub returns : goal.returns
returns c = record { sound = sub_sound; complete = sub_complete; sizes = sub_sizes }
