use Rattle.tv_core.proofs.Common.{◌<◌, ◌^◌, refl, arith}
use Rattle.std.proofs.lemmas.List.{take_all}
use Rattle.std.proofs.lemmas.List.Elements.{All-more}
use Rattle.tv_gadget_tests.proofs.step_trials.are_words.Goals as goal

pub loop-word-preserved : goal.loop-word-preserved
loop-word-preserved g c =
    All-more (λ v. v < 2 ^ g.row.W) c.args.words.now c.loop-word.word-index 0 (omega arith) c.loop-word.invariant (c.if-not-is_word.ensures refl)

pub returns : goal.returns
returns g c e = rw (take_all c.loop-word.word-index c.args.words.now (omega arith)) at c.loop-word.invariant
