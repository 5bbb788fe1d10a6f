use Rattle.tv_plan.specs.Disasm.{text_of}
use Rattle.tv_plan.specs.Programs.{bits}
use Rattle.tv_plan.proofs.Flawed.{text_flawed}
use Rattle.tv_plan.proofs.LookLaws.{finds_unread, made_found}
use Rattle.tv_plan.proofs.disasm.read_text.Goals as goal

pub returns-in_err-image : goal.returns-in_err-image
returns-in_err-image g c = finds_unread _ _ _ _ _ _ _ _ _ c.from_residual.ensures.1 (rw c.image_bytes_most-most.ensures at c.in_err-image.ensures)

pub returns : goal.returns
returns g c = made_found _ _ _ _ _ _ (text_of (bits c.args.width)) _ _ _ _ _
    (rw c.image_bytes_most-most.ensures at c.in_ok-image.ensures) c.deref.ensures.value c.text_of.ensures (text_flawed (bits c.args.width) _)
