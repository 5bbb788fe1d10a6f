use Rattle.std.proofs.Common.{◌≡◌, ℕ, ◌<◌, length, slice_index}
use Rattle.tv_stages.specs.Settings.{narrowed}
use Rattle.tv_stages.proofs.settings.narrow.Given as goal

abbrev pub invariant-loop-x : goal.invariant-loop-x
invariant-loop-x l = record {
  long : length l.next ≡ length l.q;
  is : (y : ℕ) → y < l.x → slice_index l.next y ≡ narrowed l.d l.q l.marks y;
}
