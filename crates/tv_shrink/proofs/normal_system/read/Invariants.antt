use Rattle.tv_core.proofs.Common.{◌≡◌, ◌+◌, ◌≤◌, List, None, length, Constraint}
use Rattle.tv_container.specs.Reading.{Known}
use Rattle.tv_r1cs_read.specs.Places.{IsAt}
use Rattle.tv_shrink.specs.Answers.{first_wide, start_rows}
use Rattle.tv_shrink.specs.Tidy.{RowsAreNormal, AreWithin}
use Rattle.tv_shrink.proofs.normal_system.read.Given as goal

abbrev pub invariant-loop-scratch : goal.invariant-loop-scratch
invariant-loop-scratch g l = record {
  same : l.reader.files.ghost_name ≡ l.initial.reader.files.ghost_name;
  outside : g.D.Files.seen l.reader.files.now ≡ g.D.Files.seen l.fn.files;
  name : l.reader.name.now ≡ l.fn.name;
  on : l.reader.progress.stopped ≡ None;
  header : l.reader.progress.header ≡ l.initial.reader.progress.header;
  counted : length l.rows + l.reader.progress.left ≤ l.initial.reader.progress.left;
  within : AreWithin l.initial.reader.progress.header.wires l.rows;
  normal : RowsAreNormal l.rows;
  place : Known (g.D.Files.seen l.fn.files) l.fn.name (λ file.
      (done : List Constraint) × IsAt l.reader.progress file done × (l.rows ≡ start_rows done) × (first_wide done ≡ None));
}

abbrev pub decreases-loop-scratch : goal.decreases-loop-scratch
decreases-loop-scratch g l = l.reader.progress.left
