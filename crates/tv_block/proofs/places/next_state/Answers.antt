use Rattle.tv_core.proofs.Common.{◌∙◌, ap, arith, range_with_len}
use Rattle.tv_block.proofs.PlaceLaws.{same_state}
use Rattle.tv_block.proofs.places.next_state.Goals as goal

pub returns-clause-is : goal.returns-clause-is
returns-clause-is g c =
    same_state _ _ _ _ _ _ _ _ _ _
    (omega (arith, c.offset.ensures, c.offset-written.ensures, c.written_at.ensures))
    (c.wires_from.ensures.wires ∙ ap (λ k. range_with_len k 16) (omega (arith, c.offset-2.ensures, c.offset-written.ensures, c.written_at.ensures)))
    (omega (arith, c.offset-3.ensures, c.offset-written.ensures, c.written_at.ensures))
    (omega (arith, c.offset-4.ensures, c.offset-tapes.ensures, c.tapes_at.ensures))
    (omega (arith, c.offset-5.ensures, c.offset-tapes.ensures, c.tapes_at.ensures))
