use Rattle.tv_core.proofs.Common.{◌≡◌, ◌+◌, ◌≤◌, ◌++◌, List, None, length, Constraint}
use Rattle.tv_core.specs.Meanings.{first_failure}
use Rattle.tv_container.specs.Reading.{Known}
use Rattle.tv_r1cs_read.specs.Places.{IsAt}
use Rattle.tv_r1cs_read.proofs.progress.Progress.first_failure.Given as goal

abbrev pub invariant-loop-self : goal.invariant-loop-self
invariant-loop-self g l = record {
  outside : g.D.Files.seen l.files ≡ g.D.Files.seen l.initial.files;
  header : l.self.header ≡ l.initial.self.header;
  on : l.self.stopped ≡ None;
  fewer : l.self.left ≤ l.all;
  place : (rows : List Constraint) → Known (g.D.Files.seen l.initial.files) l.name (λ file. IsAt l.initial.self file rows →
      (more : List Constraint) × IsAt l.self file (rows ++ more) × (l.self.left + length more ≡ l.all) × (first_failure l.values 0 more ≡ None));
}

abbrev pub decreases-loop-self : goal.decreases-loop-self
decreases-loop-self g l = l.self.left
