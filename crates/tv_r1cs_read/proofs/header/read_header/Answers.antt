use Rattle.tv_container.proofs.Chain.{err_is, not_refused, reads_as, reads_off, reads_on, refuses_first, same_refusal}
use Rattle.tv_container.proofs.SectionLemmas.{sections_of-fit}
use Rattle.tv_r1cs_read.specs.R1cs.{header_of}
use Rattle.tv_r1cs_read.proofs.header.read_header.Goals as goal

pub returns-in_err-found : goal.returns-in_err-found
unfolding header_of
returns-in_err-found g c =
    rw (err_is c.from_residual.result c.from_residual.ensures.1) (record {
      reads = reads_as (reads_off c.in_err-found.ensures.reads) (λ file known refuses. refuses_first _ _ _ refuses);
      within = λ file known piece. tt;
      ends = tt;
      room = tt;
      missing = λ missing none. same_refusal (c.in_err-found.ensures.missing missing none);
    })

pub returns : goal.returns
unfolding header_of
returns g c = record {
  reads = reads_as (reads_on c.in_ok-found.ensures.reads c.header_in.ensures.reads) (λ file known is.
      let found = is.first in
      rw found.1 (is.rest found.3 found.0 found.2 (sections_of-fit _ _ _ file found.0 found.1)));
  within = λ file known piece.
      let found = c.in_ok-found.ensures.reads.gives file known piece in
      c.header_in.ensures.within file found.0 found.2 (sections_of-fit _ _ _ file found.0 found.1);
  ends = c.header_in.ensures.ends;
  room = c.header_in.ensures.room;
  missing = λ missing none. not_refused (c.in_ok-found.ensures.missing missing none);
}
