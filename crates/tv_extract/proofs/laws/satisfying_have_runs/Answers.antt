use Rattle.tv_extract.proofs.ExtractLaws.{satisfying_have_runs}
use Rattle.tv_extract.proofs.laws.satisfying_have_runs.Goals as goal

pub returns : goal.returns
returns c = satisfying_have_runs
