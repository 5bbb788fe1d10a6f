use Rattle.std.proofs.Common.{◌≡◌, ℕ, ◌<◌, length, slice_index}
use Rattle.tv_stages.proofs.settings.invert.Given as goal

abbrev pub invariant-loop-x : goal.invariant-loop-x
invariant-loop-x l = record {
  long : length l.r ≡ length l.q;
  is : (y : ℕ) → y < l.x → slice_index l.r (slice_index l.q y) ≡ y;
}
