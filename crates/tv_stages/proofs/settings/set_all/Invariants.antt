use Rattle.std.proofs.Common.{◌≡◌, length}
use Rattle.tv_stages.specs.Settings.{asked, backs}
use Rattle.tv_stages.specs.Stages.{switches}
use Rattle.tv_stages.proofs.DepthBits.{AreSetBelow}
use Rattle.tv_stages.proofs.settings.set_all.Given as goal

abbrev pub invariant-loop-d : goal.invariant-loop-d
invariant-loop-d l = record {
  asks : l.q ≡ asked l.fn.q l.d;
  back : l.r ≡ backs l.q;
  marks_long : length l.marks ≡ length l.fn.q;
  long : length l.bits ≡ switches l.net (length l.fn.q);
  set : AreSetBelow l.net l.fn.q l.d l.bits;
}
