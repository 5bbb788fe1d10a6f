use Rattle.tv_core.proofs.Common.{refl}
use Rattle.tv_container.proofs.Chain.{err_is, reads_as, reads_done, reads_off, reads_on, refuses_any}
use Rattle.tv_container.proofs.SectionLemmas.{fit-within}
use Rattle.tv_container.specs.Places.{places}
use Rattle.tv_r1cs_read.proofs.header.counted.Goals as goal

pub returns-in_err-fit : goal.returns-in_err-fit
returns-in_err-fit g c =
    rw (err_is c.from_residual.result c.from_residual.ensures.1) (record {
      reads = reads_as (reads_off c.in_err-fit.ensures.reads) (λ file known refuses within.
          refuses_any _ _ _ (rw (fit-within 40 c.args.one.now.at (places file) within) at refuses));
      rows = tt;
    })

pub returns : goal.returns
returns g c = record {
  reads = reads_as (reads_on c.in_ok-fit.ensures.reads reads_done) (λ file known is within.
      rw (c.word.ensures file is.held, c.word-2.ensures file is.held, c.word-3.ensures file is.held, c.word-4.ensures file is.held) refl);
  rows = refl;
}
