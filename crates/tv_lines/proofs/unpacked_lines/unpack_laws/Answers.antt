use Rattle.tv_lines.proofs.UnpackingLaws.{unpack_sound, unpack_complete, unpack_fill}
use Rattle.tv_lines.proofs.unpacked_lines.unpack_laws.Goals as goal

pub returns : goal.returns
returns c = record { sound = unpack_sound; complete = unpack_complete; sizes = unpack_fill }
