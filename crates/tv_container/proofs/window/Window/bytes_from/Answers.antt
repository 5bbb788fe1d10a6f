use Rattle.tv_core.proofs.Common.{arith, refl}
use Rattle.tv_container.proofs.Pieces.{rest_held}
use Rattle.tv_container.proofs.window.Window.bytes_from.Goals as goal

pub returns-clause-bytes : goal.returns-clause-bytes
returns-clause-bytes c = λ file piece.
    rest_held _ file _ _ _ _ (omega (arith, c.self.invariant)) (rw (← c.self.view_is) at piece) (rw (← c.self.view_is) at c.requires) refl
