use Rattle.tv_core.proofs.Common.{first_given, in_given, gives_refused_whole}
use Rattle.tv_core.proofs.ValuesChain.{some_given}
use Rattle.tv_muldiv.proofs.quotients.fill_quotient.Goals as goal

pub returns-in_err-fill_words : goal.returns-in_err-fill_words
returns-in_err-fill_words g c = gives_refused_whole _ _ _ _ _ _ c.from_residual.ensures (first_given _ c.in_err-fill_words.ensures.gives)

pub returns-in_err-give_values : goal.returns-in_err-give_values
returns-in_err-give_values g c =
    let flags = rw c.flags.ensures at c.in_err-give_values.ensures.gives in
    gives_refused_whole _ _ _ _ _ _ c.from_residual-in_err-give_values.ensures (some_given _ c.in_ok-fill_words.ensures.gives (first_given _ flags))

pub returns-clause-gives : goal.returns-clause-gives
returns-clause-gives g c =
    let flags = rw c.flags.ensures at c.in_ok-give_values.ensures.gives in
    in_given _ _ _ c.in_ok-fill_words.ensures.gives (in_given _ _ _ flags c.fill_above.ensures.gives)
