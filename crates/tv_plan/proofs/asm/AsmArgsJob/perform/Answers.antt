use Rattle.tv_core.proofs.Common.{refl}
use Rattle.tv_plan.specs.Asm.{asm_asks}
use Rattle.tv_plan.proofs.AnswerLaws.{does_stopped, does_found, completes_whole, completes_cut}
use Rattle.tv_plan.proofs.asm.AsmArgsJob.perform.Goals as goal

pub returns-in_err-bytes : goal.returns-in_err-bytes
returns-in_err-bytes g c = does_stopped (asm_asks c.args.self) _ _ _ _ _ _ _ refl c.in_err-bytes.ensures c.from_residual.ensures.1

pub returns-in_err-write_bytes : goal.returns-in_err-write_bytes
returns-in_err-write_bytes g c = does_found (asm_asks c.args.self) _ _ _ _ _ _ _ _ refl refl c.in_ok-bytes.ensures
    (completes_cut _ _ _ _ _ _ (rw c.deref.ensures.value at c.in_err-write_bytes.ensures) c.from_residual-in_err-write_bytes.ensures.1)

pub returns : goal.returns
returns g c = does_found (asm_asks c.args.self) _ _ _ _ _ _ _ _ refl refl c.in_ok-bytes.ensures
    (completes_whole _ _ _ _ _ _ refl (rw c.deref.ensures.value at c.in_ok-write_bytes.ensures))
