use Rattle.tv_container.proofs.Buffers.{took_then}
use Rattle.tv_r1cs_write.proofs.parts.put_row.Goals as goal

pub returns-clause-took : goal.returns-clause-took
returns-clause-took g c =
    rw (← c.terms.ensures.terms, ← c.terms-2.ensures.terms, ← c.terms-3.ensures.terms)
    (took_then c.put_terms.ensures.took (took_then c.put_terms-2.ensures.took c.put_terms-3.ensures.took))
