use Rattle.tv_shift.specs.Masks.{mask_at}
use Rattle.tv_shift.proofs.masks.Places.set_mask.Goals as goal

pub returns-in-Low-clause-terms : goal.returns-in-Low-clause-terms
unfolding mask_at
returns-in-Low-clause-terms g c = rw c.in-Low.is (rw (c.marks.ensures.bits, c.marks.ensures.products, c.half_log.ensures) at c.set_mark.ensures.terms)

pub returns-in-High-clause-terms : goal.returns-in-High-clause-terms
unfolding mask_at
returns-in-High-clause-terms g c = rw c.in-High.is
    (rw (c.marks-in-High.ensures.bits, c.marks-in-High.ensures.products, c.half_log-in-High.ensures) at c.set_mark-in-High.ensures.terms)
