use Rattle.std.proofs.Common.{sym}
use Rattle.tv_core.proofs.RowLaws.{constraint_same}
use Rattle.tv_core.proofs.rows.combinations.Goals as goal

pub returns : goal.returns
returns c = constraint_same _ _ _ _ _ _ (sym c.from_terms.ensures) (sym c.from_terms-2.ensures) (sym c.from_terms-3.ensures)
