use Rattle.tv_core.proofs.Common.{arith}
use Rattle.tv_container.proofs.Pieces.{moved}
use Rattle.tv_container.proofs.window.Window.go.Goals as goal

pub returns-then-holds-clause-piece : goal.returns-then-holds-clause-piece
returns-then-holds-clause-piece c = λ file piece.
    let holds = rw (← c.self.view_is) at (c.holds.ensures.0 c.if-holds.true) in
    rw c.copy_within.ensures.after (moved c.self.inside.bytes file c.self.inside.held c.self.inside.at c.args.at (omega (arith, c.self.invariant))
    (rw (← c.self.view_is) at piece) holds)
