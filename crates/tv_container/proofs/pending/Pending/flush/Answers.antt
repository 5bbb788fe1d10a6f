use Rattle.tv_core.proofs.Common.{◌∙◌}
use Rattle.std.proofs.lemmas.List.{drop_all}
use Rattle.tv_container.proofs.Buffers.{took_then}
use Rattle.tv_container.proofs.pending.Pending.flush.Goals as goal

pub returns-then-not-is_empty-clause-took : goal.returns-then-not-is_empty-clause-took
returns-then-not-is_empty-clause-took g c = took_then c.make_room.ensures.took c.append_piece.ensures.took

pub returns-then-not-is_empty-clause-none : goal.returns-then-not-is_empty-clause-none
returns-then-not-is_empty-clause-none g c = c.append_piece.ensures.rest ∙ drop_all _ _ c.make_room.ensures.room
