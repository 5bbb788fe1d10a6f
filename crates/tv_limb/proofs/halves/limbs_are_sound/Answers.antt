use Rattle.tv_limb.proofs.LimbLaws.{limbs_sound}
use Rattle.tv_limb.proofs.halves.limbs_are_sound.Goals as goal

pub returns : goal.returns
returns c = limbs_sound
