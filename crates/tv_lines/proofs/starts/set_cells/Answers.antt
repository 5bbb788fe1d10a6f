use Rattle.tv_core.proofs.Common.{◌≡◌, constant, normal}
use Rattle.tv_lines.proofs.CompactLaws.{less_front}
use Rattle.tv_lines.proofs.starts.set_cells.Goals as goal

pub returns-clause-terms : goal.returns-clause-terms
returns-clause-terms c =
    let first = c.args.item.now.first in
    let start : c.add_terms.new.self ≡ normal first = rw (c.clear.ensures, c.terms.ensures.terms) at c.add_terms.ensures.terms in
    less_front first c.add_terms.new.self (constant c.args.c) c.subtract_number_above.new.lc start c.subtract_number_above.ensures.terms
