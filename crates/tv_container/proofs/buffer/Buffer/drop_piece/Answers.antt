use Rattle.tv_core.proofs.Common.{arith, ap, drop, take, ◌-◌, ◌∙◌}
use Rattle.tv_container.proofs.Buffers.{others_held}
use Rattle.tv_container.proofs.buffer.Buffer.drop_piece.Goals as goal

pub returns-clause-rest : goal.returns-clause-rest
returns-clause-rest c =
    ap (take (c.self.inside.held - c.min-size.result)) c.copy_within.ensures.after
    ∙ others_held c.self.inside.bytes c.self.inside.held 4096 c.min-size.result (omega (arith, c.self.invariant)) c.min-size.ensures
    ∙ ap (drop 4096) c.self.view_is
