use Rattle.tv_lines.specs.SortedPair.{first_line_of}
use Rattle.tv_lines.proofs.sorted_pairs.first_line.Goals as goal

pub returns : goal.returns
unfolding first_line_of
returns g c = record { emits = rw (c.lc.ensures.terms, c.constant.ensures, c.empty.ensures) at c.put.ensures.emits }
