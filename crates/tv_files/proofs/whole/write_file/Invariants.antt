use Rattle.std.proofs.Common.{◌≡◌, ℕ, List, ◌++◌}
use Rattle.tv_files.specs.Outside.{Outside, SameCounts}
use Rattle.tv_files.specs.Whole.{HasBytes}
use Rattle.tv_files.proofs.whole.write_file.Given as goal

abbrev pub invariant-loop-piece : goal.invariant-loop-piece
invariant-loop-piece g l = let old : Outside = g.D.Files.seen l.fn.files in let new : Outside = g.D.Files.seen l.files in
    (written : List ℕ) × record {
      split : l.bytes ≡ written ++ l.piece-iterator.rest.now;
      contents : HasBytes old new l.name written;
      said : new.said ≡ old.said;
      counts : SameCounts old new;
    }
