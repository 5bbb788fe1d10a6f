use Rattle.tv_core.proofs.Common.{◌≡◌, ◌≤◌, ◌*◌, length, take, terms_in}
use Rattle.std.specs.List.{filter_map}
use Rattle.tv_shrink.proofs.output.count_rows.Given as goal

abbrev pub invariant-loop-at : goal.invariant-loop-at
invariant-loop-at l = record {
  constraints : l.tally.constraints ≡ length (filter_map (λ row. row) (take l.at l.rows));
  terms : l.tally.terms ≡ terms_in (filter_map (λ row. row) (take l.at l.rows));
  few : l.tally.constraints ≤ l.at;
  bound : l.tally.terms ≤ 384 * l.at;
}
