use Rattle.std.proofs.Common.{◌≡◌, ℕ, List, ◌++◌, IsUtf8}
use Rattle.std.specs.Fmt.{HasWritten, IsPlainFormatter}
use Rattle.tv_disk.specs.Escaped.{escaped}
use Rattle.tv_disk.proofs.escaped.EscapedDisplay.fmt.Given as goal

abbrev pub invariant-loop-c : goal.invariant-loop-c
invariant-loop-c g l =
    IsPlainFormatter l.fn.f
    → IsUtf8 l.c-iterator.rest.now
    × ((done : List ℕ) × HasWritten g.W.Write.write_str_gives l.fn.f done l.f × (done ++ escaped l.c-iterator.rest.now ≡ escaped l.fn.self.0.now))
