use Rattle.tv_core.proofs.Common.{first_given, in_given, gives_refused_whole}
use Rattle.tv_parts.proofs.written.fill_written.Goals as goal

pub returns-in_err-give : goal.returns-in_err-give
returns-in_err-give g c =
    let part0 = rw (c.from.ensures, c.writes-on.ensures) at c.in_err-give.ensures.gives in
    gives_refused_whole _ _ _ _ _ _ c.from_residual.ensures (first_given _ part0)

pub returns-clause-gives : goal.returns-clause-gives
returns-clause-gives g c =
    let part0 = rw (c.from.ensures, c.writes-on.ensures) at c.in_ok-give.ensures.gives in
    let part1 = rw (c.from-2.ensures, c.writes-on.ensures, c.result_of-word.ensures) at c.fill_update.ensures.gives in
    in_given _ _ _ part0 part1
