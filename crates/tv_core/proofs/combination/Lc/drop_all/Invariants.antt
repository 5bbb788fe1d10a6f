use Rattle.std.proofs.Common.{◌≡◌, ◌+◌, length}
use Rattle.tv_core.proofs.combination.Lc.drop_all.Given as goal

abbrev pub invariant-loop : goal.invariant-loop
invariant-loop l = length l.self-inside.terms.items + l.counter ≡ l.count
