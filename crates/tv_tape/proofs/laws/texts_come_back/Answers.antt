use Rattle.tv_tape.proofs.Texts.{comes_back}
use Rattle.tv_tape.proofs.laws.texts_come_back.Goals as goal

pub returns : goal.returns
returns c = comes_back
