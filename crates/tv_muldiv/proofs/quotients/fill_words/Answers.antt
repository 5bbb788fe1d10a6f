use Rattle.tv_core.proofs.Common.{in_given}
use Rattle.tv_muldiv.proofs.quotients.fill_words.Goals as goal

pub returns-clause-gives : goal.returns-clause-gives
returns-clause-gives g c =
    let quot = rw (c.from.ensures, c.quotient.ensures.word) at c.in_ok-fill_bits.ensures.gives in
    let rem = rw (c.from-2.ensures, c.remainder.ensures.word) at c.fill_bits-2.ensures.gives in
    in_given _ _ _ quot rem
