use Rattle.tv_core.proofs.Common.{◌≡◌, ℕ, ◌+◌, [], ap, ◌∙◌}
use Rattle.tv_core.specs.Meanings.{Counted, IsCounted}
use Rattle.tv_layout.proofs.counts.count_system.Goals as goal

none_counted : (sink : Counted) (wires : ℕ) → sink ≡ record { wires = wires; constraints = 0; terms = 0 } → IsCounted sink []
none_counted sink wires e = record { constraints = ap (λ (s : Counted). s.constraints) e; terms = ap (λ (s : Counted). s.terms) e; fit = tt }

pub returns-clause-counted : goal.returns-clause-counted
returns-clause-counted g c =
    let begins : c.new-s.result.wires ≡ 2 + c.args.n = ap (λ (s : Counted). s.wires) c.new-s.ensures ∙ c.public_wires.ensures in
    rw begins at (c.in-Ok.ensures.emits.puts.stands [] (none_counted c.new-s.result _ c.new-s.ensures))
