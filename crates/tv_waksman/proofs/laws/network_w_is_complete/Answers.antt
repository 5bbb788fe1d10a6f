use Rattle.tv_benes.specs.declared.shape.Net.TheVariants.{Waksman}
use Rattle.tv_waksman.proofs.laws.network_w_is_complete.Goals as goal

pub returns : goal.returns
returns c = λ z next h item bit v assigns is has. c.network_is_complete.ensures z Waksman next h item bit v assigns is has
