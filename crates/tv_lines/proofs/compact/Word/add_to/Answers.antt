use Rattle.tv_core.proofs.Common.{normal}
use Rattle.tv_lines.proofs.compact.Word.add_to.Goals as goal

pub returns-in-Nothing-clause-terms : goal.returns-in-Nothing-clause-terms
unfolding normal
returns-in-Nothing-clause-terms c = rw c.in-Nothing.is c.requires.empty
