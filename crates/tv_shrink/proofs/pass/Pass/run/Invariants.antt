use Rattle.tv_core.proofs.Common.{◌≡◌, range_with_len}
use Rattle.std.specs.List.{fold}
use Rattle.tv_shrink.specs.Pass.{turn}
use Rattle.tv_shrink.proofs.pass.Pass.run.Given as goal

abbrev pub invariant-loop-at : goal.invariant-loop-at
invariant-loop-at l =
    l.self.state ≡ record {
      publics = l.initial.self.state.publics;
      pass = fold (turn l.initial.self.state.publics) l.initial.self.state.pass (range_with_len 0 l.at);
    }
