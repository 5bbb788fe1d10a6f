use Rattle.tv_core.proofs.Common.{first_given, in_given, gives_refused_whole}
use Rattle.tv_double_checks.proofs.successors.fill_within.Goals as goal

pub returns-in_err-fill_bits : goal.returns-in_err-fill_bits
returns-in_err-fill_bits g c =
    let bits = rw (c.from.ensures, c.reach_between.ensures) at c.in_err-fill_bits.ensures.gives in
    gives_refused_whole _ _ _ _ _ _ c.from_residual.ensures (first_given _ bits)

pub returns-clause-gives : goal.returns-clause-gives
returns-clause-gives g c =
    let bits = rw (c.from.ensures, c.reach_between.ensures) at c.in_ok-fill_bits.ensures.gives in
    let given = rw c.excess_between.ensures at c.give.ensures.gives in
    in_given _ _ _ bits given
