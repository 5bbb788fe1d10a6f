use Rattle.tv_core.proofs.Common.{length, ◌+◌}
use Rattle.tv_plan.proofs.place.+keep_apart.Given as goal

abbrev pub decreases-keep_apart : goal.decreases-keep_apart
decreases-keep_apart l = length l.reads.now + length l.writes.now
