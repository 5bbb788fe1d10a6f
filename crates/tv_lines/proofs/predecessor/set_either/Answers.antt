use Rattle.tv_core.proofs.Common.{◌≡◌, normal}
use Rattle.tv_lines.proofs.CompactLaws.{less_front}
use Rattle.tv_lines.specs.Compact.{cell_lc}
use Rattle.tv_lines.proofs.predecessor.set_either.Goals as goal

pub returns-clause-b : goal.returns-clause-b
returns-clause-b c =
    let first = c.args.item.now.first in
    let start : c.add_terms.new.self ≡ normal first = rw (c.clear.ensures, c.terms.ensures.terms) at c.add_terms.ensures.terms in
    less_front first c.add_terms.new.self (cell_lc c.args.line.now.cell) c.subtract_above.new.lc start c.subtract_above.ensures.terms
