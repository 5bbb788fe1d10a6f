use Rattle.tv_step.proofs.CellLaws.{lines_in_range, olds_are_in_cells, step_writes_its_line}
use Rattle.tv_step.proofs.LineLaws.{only_stores_write}
use Rattle.tv_step.proofs.laws.lines_determine_cells.Goals as goal

pub returns-clause-range : goal.returns-clause-range
returns-clause-range c = lines_in_range

pub returns-clause-olds : goal.returns-clause-olds
returns-clause-olds c = olds_are_in_cells

pub returns-clause-writes : goal.returns-clause-writes
returns-clause-writes c = step_writes_its_line

pub returns-clause-stores : goal.returns-clause-stores
returns-clause-stores c = only_stores_write
