use Rattle.tv_core.proofs.Common.{first_given, in_given, gives_refused_whole}
use Rattle.tv_logic.proofs.gadget.fill_logic.Goals as goal

pub returns-in_err-fill_words : goal.returns-in_err-fill_words
returns-in_err-fill_words g c = gives_refused_whole _ _ _ _ _ _ c.from_residual.ensures (first_given _ c.in_err-fill_words.ensures.gives)

pub returns-clause-gives : goal.returns-clause-gives
returns-clause-gives g c =
    let flags = rw c.inverted.ensures.word at c.fill_flags.ensures.gives in
    in_given _ _ _ c.in_ok-fill_words.ensures.gives flags
