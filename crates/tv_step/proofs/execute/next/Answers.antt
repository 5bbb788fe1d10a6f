use Rattle.tv_core.proofs.Common.{◌<◌, ◌^◌}
use Rattle.tv_step.proofs.TapeLaws.{all_left}
use Rattle.tv_step.proofs.execute.next.Goals as goal

pub returns-clause-rest : goal.returns-clause-rest
returns-clause-rest g c = all_left (λ v. v < 2 ^ g.row.W) _ _ _ c.next.ensures.word c.next.ensures.end c.requires
