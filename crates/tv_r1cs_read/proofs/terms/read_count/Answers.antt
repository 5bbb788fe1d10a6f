use Rattle.tv_core.proofs.Common.{sym}
use Rattle.tv_container.proofs.Chain.{err_is, reads_as, reads_bad, reads_done, reads_off, reads_on, refuses_first, refuses_wrong}
use Rattle.tv_r1cs_read.specs.R1cs.{count_at}
use Rattle.tv_r1cs_read.proofs.Ahead.{count_at-good, count_at-wide}
use Rattle.tv_r1cs_read.proofs.terms.read_count.Goals as goal

pub returns-in_err-fit_below : goal.returns-in_err-fit_below
unfolding count_at
returns-in_err-fit_below g c =
    rw (err_is c.from_residual.result c.from_residual.ensures.1) (record {
      narrow = tt;
      within = tt;
      place = tt;
      reads = reads_as (reads_off c.in_err-fit_below.ensures.reads) (λ file known refuses end. refuses_first _ _ _ (refuses end));
    })

pub returns-then-terms-gt-WIDEST : goal.returns-then-terms-gt-WIDEST
returns-then-terms-gt-WIDEST g c = record {
  narrow = tt;
  within = tt;
  place = tt;
  reads = reads_as (reads_on c.in_ok-fit_below.ensures.reads reads_bad) (λ file known is end.
      refuses_wrong _ _ _ (count_at-wide file _ _ _ c.in_ok-fit_below.ensures.within (sym (c.word-terms.ensures file is.held)) c.if-terms-gt-WIDEST.true));
}

pub returns : goal.returns
returns g c = record {
  narrow = c.if-terms-gt-WIDEST.false;
  within = c.in_ok-fit_below.ensures.within;
  place = c.in_ok-fit_below.ensures.place;
  reads = reads_as (reads_on c.in_ok-fit_below.ensures.reads reads_done) (λ file known is end.
      count_at-good file _ _ _ c.in_ok-fit_below.ensures.within (sym (c.word-terms.ensures file is.held)) c.if-terms-gt-WIDEST.false);
}
