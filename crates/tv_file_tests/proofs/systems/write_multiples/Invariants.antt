use Rattle.tv_core.proofs.Common.{◌≡◌, false}
use Rattle.std.specs.Prelude.{is_err}
use Rattle.tv_file_tests.proofs.systems.write_multiples.Given as goal

abbrev pub invariant-loop-i : goal.invariant-loop-i
invariant-loop-i l = record {
  whole : is_err l.sink.pending.outcome ≡ false;
  wires : l.sink.wires ≡ 3;
  count : l.sink.constraints ≡ l.i;
}
