use Rattle.tv_core.proofs.Common.{rules, ◌≡◌, true}
use Rattle.tv_argument_tests.proofs.argument.assignment.Goals as goal

pub settings_for-requires-clause-permutes : goal.settings_for-requires-clause-permutes
settings_for-requires-clause-permutes c =
    let yes : c.in_ok-is_permutation.field-0 ≡ true = search rules in
    let is = c.in_ok-is_permutation.ensures.0 yes in
    record { below = is.below; back = is.back; back_below = is.back_below; there = is.there; once = is.once }
