use Rattle.tv_core.proofs.Common.{◌≡◌, ℕ, ◌+◌, ◌≤◌, List, length, Ok}
use Rattle.tv_container.specs.Places.{places}
use Rattle.tv_container.specs.Reading.{ReadsIn}
use Rattle.tv_r1cs_read.specs.Rows.{AreAt, IsTaken}
use Rattle.tv_r1cs_read.proofs.terms.read_far.Given as goal

abbrev pub invariant-loop-left : goal.invariant-loop-left
invariant-loop-left g l = record {
  within : l.at ≤ l.bounds.end;
  terms : List (ℕ × ℕ);
  left : length terms + l.left ≡ l.count;
  taken : IsTaken (g.T.Taker.Took l.taker l.values) l.bounds.wires l.initial.at terms l.at;
  reads : ReadsIn (g.D.Files.seen l.initial.files) (g.D.Files.seen l.files) l.name l.initial.window l.window (Ok (tt {0})) (λ file. l.bounds.end
      ≤ places file → AreAt file l.bounds l.initial.at terms);
}

abbrev pub decreases-loop-left : goal.decreases-loop-left
decreases-loop-left g l = l.left
