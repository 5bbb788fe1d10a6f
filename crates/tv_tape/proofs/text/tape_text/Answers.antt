use Rattle.std.proofs.Common.{rules, arith}
use Rattle.std.proofs.lemmas.Grind.{common_steps}
use Rattle.tv_tape.proofs.text.tape_text.Goals as goal

pub offset_bounds-words-word-index : goal.offset_bounds-words-word-index
offset_bounds-words-word-index c = search (rules, c.well_formed)

pub loop-word-preserved : goal.loop-word-preserved
loop-word-preserved c = grind (arith, common_steps)

pub returns : goal.returns
returns c = grind (arith, common_steps)
