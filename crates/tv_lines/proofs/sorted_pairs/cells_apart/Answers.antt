use Rattle.tv_lines.specs.SortedPair.{apart_of}
use Rattle.tv_lines.proofs.sorted_pairs.cells_apart.Goals as goal

pub returns-clause-emits : goal.returns-clause-emits
unfolding apart_of
returns-clause-emits g c = rw (c.plus_to.ensures.terms, c.set_number.ensures.terms, c.neg.ensures) at c.kept_by.ensures.emits
