use Rattle.tv_core.proofs.Common.{arith}
use Rattle.tv_fill.proofs.items.pack_items.Goals as goal

pub push_words-requires-clause-times : goal.push_words-requires-clause-times
push_words-requires-clause-times c = omega (arith, c.requires.few)

pub push_words-requires-2-clause-cells : goal.push_words-requires-2-clause-cells
push_words-requires-2-clause-cells c = omega (arith, c.requires.few)

pub push_words-requires-2-clause-times : goal.push_words-requires-2-clause-times
push_words-requires-2-clause-times c = omega (arith, c.requires.few)
