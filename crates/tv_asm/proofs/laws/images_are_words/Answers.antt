use Rattle.tv_asm.proofs.RangeLemmas.{images_words}
use Rattle.tv_asm.proofs.laws.images_are_words.Goals as goal

pub returns : goal.returns
returns c = images_words
