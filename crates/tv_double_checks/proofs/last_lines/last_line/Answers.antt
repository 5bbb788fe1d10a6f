use Rattle.tv_double_checks.specs.Last.{last_line_of}
use Rattle.tv_double_checks.proofs.last_lines.last_line.Goals as goal

pub returns : goal.returns
unfolding last_line_of
returns g c = record {
  emits = rw (c.add_terms.ensures.terms, c.clear.ensures, c.terms.ensures.terms, c.set_wire.ensures.terms, c.clear-2.ensures) at c.put.ensures.emits;
}
