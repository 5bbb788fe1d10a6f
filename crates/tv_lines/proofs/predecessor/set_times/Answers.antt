use Rattle.tv_core.proofs.Common.{◌≡◌, ◌++◌, ◌∙◌, ap, constant, wire, normal}
use Rattle.tv_lines.proofs.CompactLaws.{less_front}
use Rattle.tv_lines.proofs.predecessor.set_times.Goals as goal

pub returns-clause-terms : goal.returns-clause-terms
returns-clause-terms c =
    let second = c.args.item.now.second in
    let start : c.add_terms.new.self ≡ normal second = rw (c.clear.ensures, c.terms.ensures.terms) at c.add_terms.ensures.terms in
    c.plus.ensures.terms
    ∙ ap (λ x. x ++ wire c.args.e)
    (less_front second c.add_terms.new.self (constant c.args.line.now.time) c.subtract_number_above.new.lc start c.subtract_number_above.ensures.terms)
