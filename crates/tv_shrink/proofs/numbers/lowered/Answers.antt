use Rattle.tv_core.proofs.Common.{◌≡◌, ◌+◌, ℕ, arith, length, rules}
use Rattle.std.proofs.Common.{ltb}
use Rattle.std.proofs.lemmas.List.Sorted.{IsPartitionPoint-from_clause, IsPartitionedBy-ltb}
use Rattle.tv_r1cs_write.specs.Bytes.{others}
use Rattle.tv_shrink.proofs.Gone.{at_point, lowered_by, non-decreasing}
use Rattle.tv_shrink.proofs.numbers.lowered.Goals as goal
use Rattle.tv_shrink.proofs.numbers.lowered.Goals.{After-partition_point}

-- what is below the wire and what is not make up all
all : (c : After-partition_point) → c.partition_point.result + length (others c.args.wire c.args.gone.now) ≡ c.args.wire
all c =
    lowered_by c.args.gone.now c.args.wire c.partition_point.result (at_point c.args.wire c.args.gone.now c.partition_point.result c.requires (grind arith)
    (IsPartitionPoint-from_clause (λ (v : ℕ). ltb v c.args.wire) _ _ c.partition_point.ensures.partitioned
    (IsPartitionedBy-ltb (λ (v : ℕ). v) c.args.gone.now c.args.wire (non-decreasing c.args.gone.now c.requires)) (λ a r q k. search rules)))

pub overflow_cast-result : goal.overflow_cast-result
overflow_cast-result c = omega (arith, all (goal.at.overflow_cast-result c).After-partition_point)

pub overflow_sub-result : goal.overflow_sub-result
overflow_sub-result c = omega (arith, all (goal.at.overflow_sub-result c).After-partition_point)

pub returns : goal.returns
returns c = omega (arith, all (goal.at.returns c).After-partition_point)
