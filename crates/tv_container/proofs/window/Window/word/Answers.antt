use Rattle.tv_core.proofs.Common.{arith}
use Rattle.tv_container.proofs.Pieces.{number_held}
use Rattle.tv_container.proofs.window.Window.word.Goals as goal

pub returns : goal.returns
returns c = λ file piece.
    rw c.word_at.ensures (number_held _ file _ _ _ 4 (omega (arith, c.self.invariant)) (rw (← c.self.view_is) at piece) (rw (← c.self.view_is) at c.requires))
