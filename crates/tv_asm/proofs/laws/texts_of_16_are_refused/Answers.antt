use Rattle.tv_asm.proofs.HeaderLemmas.{texts_refused}
use Rattle.tv_asm.proofs.laws.texts_of_16_are_refused.Goals as goal

pub returns : goal.returns
returns c = texts_refused
