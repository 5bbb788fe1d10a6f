use Rattle.tv_core.proofs.Common.{refl}
use Rattle.tv_shift.specs.Masks.{digit_at}
use Rattle.tv_shift.proofs.masks.Places.chosen_bit.Goals as goal

pub returns-clause-terms : goal.returns-clause-terms
unfolding digit_at
returns-clause-terms g c = rw c.offset.ensures refl
