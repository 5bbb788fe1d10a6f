use Rattle.std.proofs.Common.{◌≡◌, take, false}
use Rattle.tv_core.specs.Values.{GivesAll}
use Rattle.tv_core.proofs.values.give_words.Given as goal

abbrev pub invariant-loop-word : goal.invariant-loop-word
invariant-loop-word g l = GivesAll g.V.Values.giving l.initial.v l.v (take l.word-index l.words) × (g.V.Values.giving.broken l.v ≡ false)
