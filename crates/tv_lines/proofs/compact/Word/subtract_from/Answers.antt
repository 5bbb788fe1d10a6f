use Rattle.tv_core.proofs.Addition.{added_none}
use Rattle.tv_lines.proofs.compact.Word.subtract_from.Goals as goal

pub returns-in-Nothing-clause-terms : goal.returns-in-Nothing-clause-terms
returns-in-Nothing-clause-terms c = rw c.in-Nothing.is (added_none c.args.lc.now c.requires.normal)
