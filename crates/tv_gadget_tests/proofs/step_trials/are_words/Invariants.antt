use Rattle.tv_core.proofs.Common.{take}
use Rattle.tv_step.specs.Range.{AreWords}
use Rattle.tv_gadget_tests.proofs.step_trials.are_words.Given as goal

abbrev pub invariant-loop-word : goal.invariant-loop-word
invariant-loop-word g l = AreWords g.row.W (take l.word-index l.words)
