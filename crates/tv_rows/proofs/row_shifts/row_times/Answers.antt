use Rattle.tv_rows.proofs.row_shifts.row_times.Goals as goal

pub returns-clause-emits : goal.returns-clause-emits
returns-clause-emits g c = rw (c.plus_terms.ensures.terms, c.clear.ensures, c.number.ensures, c.set_wire.ensures.terms) at c.times_by.ensures.emits
