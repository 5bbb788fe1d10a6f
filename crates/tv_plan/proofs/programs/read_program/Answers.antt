use Rattle.tv_plan.specs.Programs.{program_of}
use Rattle.tv_plan.proofs.Flawed.{program_flawed}
use Rattle.tv_plan.proofs.LookLaws.{finds_unread, made_found}
use Rattle.tv_plan.proofs.programs.read_program.Goals as goal

pub returns-in_err-text-clause-found : goal.returns-in_err-text-clause-found
returns-in_err-text-clause-found g c = finds_unread _ _ _ _ _ _ _ _ _ c.from_residual.ensures.1 c.in_err-text.ensures

pub returns-clause-found : goal.returns-clause-found
returns-clause-found g c = made_found _ _ _ _ _ _ program_of _ _ _ _ _ c.in_ok-text.ensures c.deref.ensures.value c.program_of.ensures.made (program_flawed _)
