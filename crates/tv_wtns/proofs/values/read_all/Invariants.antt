use Rattle.tv_core.proofs.Common.{◌≡◌, ℕ, ◌+◌, ◌*◌, ◌<◌, ◌≤◌, List, [], Result}
use Rattle.std.specs.List.{All}
use Rattle.tv_core.specs.declared.field.TheConstants.{P}
use Rattle.tv_container.specs.Places.{Fault, places}
use Rattle.tv_container.specs.Reading.{InPiece, IsPiece}
use Rattle.tv_wtns.specs.Values.{IsAhead}
use Rattle.tv_wtns.proofs.values.read_all.Given as goal

abbrev pub invariant-loop-left : goal.invariant-loop-left
invariant-loop-left g l = record {
  outside : g.D.Files.seen l.files ≡ g.D.Files.seen l.initial.files;
  place : l.at + 8 * l.left ≡ l.initial.at + 8 * l.count;
  below : All (λ v. v < P) l.values.items;
  piece : InPiece (g.D.Files.seen l.initial.files) l.name l.initial.window (λ file. IsPiece l.window file);
  ahead : InPiece (g.D.Files.seen l.initial.files) l.name l.initial.window (λ file. l.initial.at + 8 * l.count ≤ places file →
      (answer : Result (List ℕ) Fault) → IsAhead answer l.most [] file l.count l.initial.at → IsAhead answer l.most l.values.items file l.left l.at);
}

abbrev pub decreases-loop-left : goal.decreases-loop-left
decreases-loop-left g l = l.left
