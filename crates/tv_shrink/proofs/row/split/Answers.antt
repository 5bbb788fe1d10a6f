use Rattle.tv_core.proofs.Common.{◌≡◌, ◌∙◌, ◌+◌, ◌≤◌, ℕ, arith, ap, get_or, length, rules, true, false}
use Rattle.std.proofs.Common.{ltb}
use Rattle.std.proofs.lemmas.List.{get_or_default, get_or-drop}
use Rattle.std.proofs.lemmas.List.Sorted.{IsPartitionPoint-from_clause, IsPartitionedBy-ltb}
use Rattle.std.specs.List.Sorted.{IsPartitionPoint}
use Rattle.tv_shrink.proofs.Constants.{rising, split_missing}
use Rattle.tv_shrink.proofs.row.split.Goals as goal
use Rattle.tv_shrink.proofs.row.split.Goals.{After-partition_point-at}

point : (c : After-partition_point-at)
    → IsPartitionPoint (λ t. ltb t.1 c.args.wire ≡ true) (λ t. ltb t.1 c.args.wire ≡ false) c.args.terms.now c.partition_point-at.result
point c =
    IsPartitionPoint-from_clause (λ (t : ℕ × ℕ). ltb t.1 c.args.wire) _ _ c.partition_point-at.ensures.partitioned
    (IsPartitionedBy-ltb (λ (t : ℕ × ℕ). t.1) c.args.terms.now c.args.wire (rising 0 c.args.terms.now c.requires)) (λ a r q k. search rules)

pub returns-in_default-clause-none : goal.returns-in_default-clause-none
returns-in_default-clause-none c = λ _.
    let past : length c.args.terms.now ≤ c.partition_point-at.result = grind arith in
    split_missing c.args.wire c.partition_point-at.result c.args.terms.now c.requires
    (point (goal.at.returns-in_default-clause-none c).After-partition_point-at)
    (λ d h e. absurd (omega arith))

pub returns-then-of-wire-clause-none : goal.returns-then-of-wire-clause-none
returns-then-of-wire-clause-none c = λ _.
    let terms = c.args.terms.now in
    let at = c.partition_point-at.result in
    split_missing c.args.wire at terms c.requires (point (goal.at.returns-then-of-wire-clause-none c).After-partition_point-at) (λ d h e.
    let same : c.index-others-0-2.result.1 ≡ c.args.wire =
    ap (λ t. t.1) (c.index-others-0-2.is ∙ ap (λ xs. get_or xs 0 c.index-others-0-2.result) c.split_at.ensures.back
    ∙ get_or-drop at terms 0 c.index-others-0-2.result ∙ get_or_default terms (at + 0) c.index-others-0-2.result d (omega arith)
    ∙ ap (λ k. get_or terms k d) (omega arith)) ∙ e in
    absurd (grind arith))
