use Rattle.tv_bits.proofs.BitNumbers.{scaled-bits-once}
use Rattle.tv_bits.proofs.prefixes.set_prefix_less.Goals as goal

pub returns-clause-terms : goal.returns-clause-terms
returns-clause-terms c =
    let first = rw (c.clear.ensures, c.above.ensures.first, c.above.ensures.n, scaled-bits-once) at c.plus_to.ensures.terms in
    let second = rw (first, c.neg.ensures, c.above-2.ensures.first, c.above-2.ensures.n) at c.plus_to-2.ensures.terms in
    rw second at c.minus.ensures.terms
