use Rattle.tv_core.proofs.Common.{◌≡◌, ◌+◌, ◌<◌, ℕ, length, slice_index}
use Rattle.tv_r1cs_write.proofs.Others.{AreAhead}
use Rattle.tv_r1cs_write.specs.Bytes.{others}
use Rattle.tv_shrink.proofs.numbers.lower_first.Given as goal

abbrev pub invariant-loop-wire : goal.invariant-loop-wire
invariant-loop-wire l = record {
  ahead : AreAhead l.wire l.gone l.next;
  both : l.next + length (others l.wire l.gone) ≡ l.wire;
  each : length l.first.items ≡ l.wire;
  so_far : (w : ℕ) → w < l.wire → slice_index l.first.items w ≡ length (others w l.gone);
}
