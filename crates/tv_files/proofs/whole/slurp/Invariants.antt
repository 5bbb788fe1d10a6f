use Rattle.std.proofs.Common.{◌≡◌, ℕ, ◌≤◌, ◌-◌, List, length, take, Some}
use Rattle.tv_files.specs.Outside.{Outside, SameCounts, WhereKnown}
use Rattle.tv_files.proofs.whole.slurp.Given as goal

abbrev pub invariant-loop-contents : goal.invariant-loop-contents
invariant-loop-contents g l = let old : Outside = g.D.Files.seen l.initial.files in let new : Outside = g.D.Files.seen l.files in
    record {
      contents_stay : new.contents ≡ old.contents;
      said_stays : new.said ≡ old.said;
      counts : SameCounts old new;
      short : length l.contents.items ≤ l.most;
      front : WhereKnown old (λ held. (bytes : List ℕ) → held l.name ≡ Some bytes → l.contents.items ≡ take (length l.contents.items) bytes);
    }

abbrev pub decreases-loop-contents : goal.decreases-loop-contents
decreases-loop-contents g l = l.most - length l.contents.items
