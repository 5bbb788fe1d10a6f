use Rattle.tv_layout.proofs.Systems.{system_sound}
use Rattle.tv_layout.proofs.laws.systems_are_sound.Goals as goal

pub returns : goal.returns
returns c = system_sound
