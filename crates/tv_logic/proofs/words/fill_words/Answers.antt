use Rattle.tv_core.proofs.Common.{first_given, in_given, gives_refused_whole}
use Rattle.tv_logic.proofs.words.fill_words.Goals as goal

pub returns-in_err-fill_and : goal.returns-in_err-fill_and
returns-in_err-fill_and g c = gives_refused_whole _ _ _ _ _ _ c.from_residual.ensures (first_given _ c.in_err-fill_and.ensures.gives)

pub returns-clause-gives : goal.returns-clause-gives
returns-clause-gives g c =
    let rest = rw (c.from.ensures, c.from-2.ensures, c.from-3.ensures, c.inverted.ensures.word) at c.give_values.ensures.gives in
    in_given _ _ _ c.in_ok-fill_and.ensures.gives rest
