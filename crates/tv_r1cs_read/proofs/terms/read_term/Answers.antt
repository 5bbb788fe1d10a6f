use Rattle.tv_core.proofs.Common.{◌<◌, sym, cases_lt}
use Rattle.std.proofs.Common.{⊎_elim}
use Rattle.tv_core.specs.declared.field.TheConstants.{P}
use Rattle.tv_container.proofs.Chain.{err_is, reads_as, reads_bad, reads_done, reads_off, reads_on, refuses_first, refuses_wrong}
use Rattle.tv_r1cs_read.specs.R1cs.{term_at}
use Rattle.tv_r1cs_read.proofs.Ahead.{term_at-far, term_at-good}
use Rattle.tv_r1cs_read.proofs.terms.read_term.Goals as goal

pub returns-in_err-fit_below : goal.returns-in_err-fit_below
unfolding term_at
returns-in_err-fit_below g c =
    rw (err_is c.from_residual.result c.from_residual.ensures.1) (record {
      held = tt;
      within = tt;
      wire = tt;
      reads = reads_as (reads_off c.in_err-fit_below.ensures.reads) (λ file known refuses end. refuses_first _ _ _ (refuses end));
    })

pub returns-then-wire-bounds : goal.returns-then-wire-bounds
returns-then-wire-bounds g c = record {
  held = tt;
  within = tt;
  wire = tt;
  reads = reads_as (reads_on c.in_ok-fit_below.ensures.reads reads_bad) (λ file known is end.
      refuses_wrong _ _ _ (term_at-far file _ _ _ _ c.in_ok-fit_below.ensures.within (sym (c.word-wire.ensures file is.held)) c.if-wire-bounds.true));
}

pub returns : goal.returns
returns g c =
    let canonical : c.long.result < P = ⊎_elim (λ below. below) (λ above. cc (c.in-Some.ensures.none.1 above)) (cases_lt c.long.result P) in
    record {
      held = c.in_ok-fit_below.ensures.held;
      within = c.in_ok-fit_below.ensures.within;
      wire = c.if-wire-bounds.false;
      reads = reads_as (reads_on c.in_ok-fit_below.ensures.reads reads_done) (λ file known is end.
          rw c.in-Some.ensures.some (term_at-good file _ _ _ _ _ c.in_ok-fit_below.ensures.within (sym (c.word-wire.ensures file is.held))
          c.if-wire-bounds.false (sym (c.long.ensures file is.held)) canonical));
    }
