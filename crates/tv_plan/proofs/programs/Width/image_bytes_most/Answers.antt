use Rattle.tv_core.proofs.Common.{refl}
use Rattle.tv_plan.proofs.programs.Width.image_bytes_most.Goals as goal

pub returns-in-Bits16 : goal.returns-in-Bits16
returns-in-Bits16 c = rw (c.from.ensures, c.in-Bits16.is) refl

pub returns-in-Bits32 : goal.returns-in-Bits32
returns-in-Bits32 c = rw (c.from-in-Bits32.ensures, c.in-Bits32.is) refl
