use Rattle.tv_plan.specs.Programs.{image_of}
use Rattle.tv_plan.proofs.Flawed.{image_flawed}
use Rattle.tv_plan.proofs.LookLaws.{made_found}
use Rattle.tv_plan.proofs.asm.read_image.Goals as goal

pub returns : goal.returns
returns g c = made_found _ _ _ _ _ _ image_of _ _ _ _ _ c.in_ok-text.ensures c.deref.ensures.value c.image_of.ensures (image_flawed _)
