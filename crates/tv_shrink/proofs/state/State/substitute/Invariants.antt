use Rattle.tv_core.proofs.Common.{◌≡◌, ℕ, None, cond, get_or, length, take}
use Rattle.std.proofs.Common.{eqb}
use Rattle.std.specs.List.{list_any}
use Rattle.std.specs.Option.{option_map}
use Rattle.tv_shrink.specs.Substitution.{replaced_in}
use Rattle.tv_shrink.proofs.state.State.substitute.Given as goal

abbrev pub invariant-loop-at : goal.invariant-loop-at
invariant-loop-at l = record {
  publics : l.self.publics ≡ l.initial.self.publics;
  gone : l.self.pass.gone ≡ l.initial.self.pass.gone;
  each : length l.self.pass.rows ≡ length l.initial.self.pass.rows;
  so_far : (i : ℕ) → get_or l.self.pass.rows i None
      ≡ cond (list_any (λ p. eqb p i) (take l.at-index l.at-items))
      (option_map (replaced_in l.by.wire l.by.terms) (get_or l.initial.self.pass.rows i None))
      (get_or l.initial.self.pass.rows i None);
}
