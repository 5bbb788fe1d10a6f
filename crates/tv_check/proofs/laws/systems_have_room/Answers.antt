use Rattle.tv_check.proofs.Room.{has_room}
use Rattle.tv_check.proofs.laws.systems_have_room.Goals as goal

pub returns : goal.returns
returns c = has_room
