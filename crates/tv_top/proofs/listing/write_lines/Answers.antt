use Rattle.tv_core.proofs.Common.{refl}
use Rattle.tv_plan.proofs.AnswerLaws.{completes_whole, completes_cut, completes_without_memory}
use Rattle.tv_top.proofs.listing.write_lines.Goals as goal

pub returns-in_err-text : goal.returns-in_err-text
returns-in_err-text g c = completes_without_memory _ _ _ _ c.from_residual.ensures.1

pub returns-in_err-write_bytes : goal.returns-in_err-write_bytes
returns-in_err-write_bytes g c = completes_cut _ _ _ _ _ _
    (rw (c.deref.ensures.value, c.in_ok-text.ensures) at c.in_err-write_bytes.ensures) c.from_residual-in_err-write_bytes.ensures.1

pub returns : goal.returns
returns g c = completes_whole _ _ _ _ _ _ refl (rw (c.deref.ensures.value, c.in_ok-text.ensures) at c.in_ok-write_bytes.ensures)
