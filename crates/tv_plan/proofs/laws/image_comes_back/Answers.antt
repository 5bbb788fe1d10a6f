use Rattle.tv_plan.proofs.ComesBack.{image_comes_back}
use Rattle.tv_plan.proofs.laws.image_comes_back.Goals as goal

pub returns : goal.returns
returns c = image_comes_back
