use Rattle.std.proofs.Common.{◌≡◌, take}
use Rattle.tv_tape.specs.Tape.{text_of}
use Rattle.tv_tape.proofs.text.tape_text.Given as goal

abbrev pub invariant-loop-word : goal.invariant-loop-word
invariant-loop-word l = l.text.items ≡ text_of (take l.word-index l.words)
