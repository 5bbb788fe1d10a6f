use Rattle.tv_core.proofs.Common.{arith, ap, take, ◌∙◌}
use Rattle.tv_container.proofs.Buffers.{first_held}
use Rattle.tv_container.proofs.buffer.Buffer.piece.Goals as goal

pub returns : goal.returns
returns c = first_held c.self.inside.bytes c.self.inside.held 4096 c.min.result (omega (arith, c.self.invariant)) c.min.ensures ∙ ap (take 4096) c.self.view_is
