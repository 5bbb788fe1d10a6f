use Rattle.tv_core.proofs.Common.{first_given, in_given, gives_refused_whole}
use Rattle.tv_regs.proofs.writes.fill_write_reg.Goals as goal

pub returns-in_err-give : goal.returns-in_err-give
returns-in_err-give g c =
    let hint = rw (c.from.ensures, c.written_regs-written.ensures) at c.in_err-give.ensures.gives in
    gives_refused_whole _ _ _ _ _ _ c.from_residual.ensures (first_given _ hint)

pub returns-clause-gives : goal.returns-clause-gives
returns-clause-gives g c =
    let hint = rw (c.from.ensures, c.written_regs-written.ensures) at c.in_ok-give.ensures.gives in
    let words = rw c.written_regs-written.ensures at c.give_words.ensures.gives in
    in_given _ _ _ hint words
