use Rattle.tv_extract.proofs.ExtractLaws.{extracted_is_run}
use Rattle.tv_extract.proofs.laws.extracted_are_runs.Goals as goal

pub returns : goal.returns
returns c = extracted_is_run
