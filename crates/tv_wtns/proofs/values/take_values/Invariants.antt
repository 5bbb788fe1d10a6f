use Rattle.tv_core.proofs.Common.{ℕ, ◌+◌, ◌-◌, ◌*◌, ◌<◌, ◌≤◌, List, length, Result}
use Rattle.std.specs.List.{All}
use Rattle.tv_core.specs.declared.field.TheConstants.{P}
use Rattle.tv_container.specs.Places.{Fault}
use Rattle.tv_wtns.specs.Values.{AreWords, IsAhead}
use Rattle.tv_wtns.proofs.values.take_values.Given as goal

abbrev pub invariant-loop-index : goal.invariant-loop-index
invariant-loop-index l = record {
  ahead : (file : List ℕ) → AreWords l.words file l.at → (answer : Result (List ℕ) Fault) → (n : ℕ) → length l.words ≤ n →
      IsAhead answer l.most l.initial.values.items file n l.at → IsAhead answer l.most l.values.items file (n - l.index) (l.at + 8 * l.index);
  below : All (λ v. v < P) l.initial.values.items → All (λ v. v < P) l.values.items;
}
