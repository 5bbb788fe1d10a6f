use Rattle.tv_cmp.proofs.comparison.greater.Goals as goal

pub returns-clause-emits : goal.returns-clause-emits
returns-clause-emits g c = rw (c.set_but_for_signs.ensures, c.offset-x.ensures, c.offset-y.ensures) at c.kept_by.ensures.emits
