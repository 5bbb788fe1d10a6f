use Rattle.tv_core.proofs.Common.{◌<◌, sym, cases_lt}
use Rattle.std.proofs.Common.{⊎_elim}
use Rattle.tv_core.specs.declared.field.TheConstants.{P}
use Rattle.tv_r1cs_read.proofs.Ahead.{term_at-good}
use Rattle.tv_r1cs_read.proofs.terms.held_term.Goals as goal

pub returns-clause-gives : goal.returns-clause-gives
returns-clause-gives c = λ file piece.
    let canonical : c.long.result < P = ⊎_elim (λ below. below) (λ above. cc (c.in_ok-coefficient.ensures.none.1 above)) (cases_lt c.long.result P) in
    rw c.in_ok-coefficient.ensures.some
    (term_at-good file _ _ _ _ _ c.requires.within (sym (c.word-wire.ensures file piece)) c.if-wire-bounds.false (sym (c.long.ensures file piece)) canonical)
