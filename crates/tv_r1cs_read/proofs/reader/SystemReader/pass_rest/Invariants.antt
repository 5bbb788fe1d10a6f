use Rattle.tv_core.proofs.Common.{◌≡◌, List, ◌++◌, None, Constraint}
use Rattle.tv_container.specs.Reading.{Known}
use Rattle.tv_r1cs_read.specs.Places.{IsAt}
use Rattle.tv_r1cs_read.proofs.reader.SystemReader.pass_rest.Given as goal

abbrev pub invariant-loop : goal.invariant-loop
invariant-loop g l = record {
  same : l.self.files.ghost_name ≡ l.initial.self.files.ghost_name;
  outside : g.D.Files.seen l.self.files.now ≡ g.D.Files.seen l.initial.self.files.now;
  name : l.self.name.now ≡ l.initial.self.name.now;
  header : l.self.progress.header ≡ l.initial.self.progress.header;
  on : l.self.progress.stopped ≡ None;
  place : (rows : List Constraint) → Known (g.D.Files.seen l.initial.self.files.now) l.initial.self.name.now (λ file. IsAt l.initial.self.progress file rows →
      (more : List Constraint) × IsAt l.self.progress file (rows ++ more));
}

abbrev pub decreases-loop : goal.decreases-loop
decreases-loop g l = l.self.progress.left
