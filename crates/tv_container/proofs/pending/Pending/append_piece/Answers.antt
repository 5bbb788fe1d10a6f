use Rattle.tv_core.proofs.Common.{sym, ◌∙◌}
use Rattle.std.proofs.Common.{of_calls}
use Rattle.tv_container.proofs.Buffers.{called, lost_more}
use Rattle.tv_container.proofs.pending.Pending.append_piece.Goals as goal
use Rattle.tv_container.proofs.pending.Pending.append_piece.Goals.{then-is_ok, else-is_ok}

pub returns-clause-took : goal.returns-clause-took
returns-clause-took g c = elim c.if-is_ok.branch [
  | then-is_ok w ↦
      let rest = rw w.self-is at c.drop_piece.ensures.rest in
      rw (w.self-is, w.files-is) (called 4096 w.append-appended.result (sym c.is_ok.ensures.value ∙ w.if-is_ok.true)
      (rw w.piece.ensures at w.append-appended.ensures) rest (search of_calls))
  | else-is_ok w ↦ rw (w.self-is, w.files-is) (lost_more (sym c.is_ok.ensures.value ∙ w.if-is_ok.false))
]
