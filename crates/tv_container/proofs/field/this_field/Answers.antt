use Rattle.tv_core.proofs.Common.{◌+◌, ◌≤◌, sym, ◌∙◌, arith, nat_tests}
use Rattle.tv_container.specs.Places.{places}
use Rattle.tv_container.proofs.Chain.{err_is, reads_as, reads_bad, reads_done, reads_off, reads_on, refuses_any, refuses_wrong}
use Rattle.tv_container.proofs.SectionLemmas.{fit-within, this_field-other, this_field-prime, this_field-short, this_field-sized}
use Rattle.tv_container.proofs.field.this_field.Goals as goal

pub returns-then-one-lt4 : goal.returns-then-one-lt4
returns-then-one-lt4 g c = record {
  reads = reads_as reads_bad (λ file known is within. refuses_wrong _ _ _ (this_field-short file _ c.args.one.now c.if-one-lt4.true));
  size = tt;
}

pub returns-in_err-fit : goal.returns-in_err-fit
returns-in_err-fit g c =
    rw (err_is c.from_residual.result c.from_residual.ensures.1) (record {
      reads = reads_as (reads_off c.in_err-fit.ensures.reads) (λ file known refuses within.
          let room : c.args.one.now.at + 4 ≤ places file = omega (arith, within, c.if-one-lt4.false) in
          refuses_any _ _ _ (rw (fit-within 4 c.args.one.now.at (places file) room) at refuses));
      size = tt;
    })

pub returns-then-word-ne8 : goal.returns-then-word-ne8
returns-then-word-ne8 g c = record {
  reads = reads_as (reads_on c.in_ok-fit.ensures.reads reads_bad) (λ file known is within.
      refuses_wrong _ _ _ (this_field-other file _ c.args.one.now c.if-one-lt4.false (rw (c.word.ensures file is.held) at c.if-word-ne8.true)));
  size = tt;
}

pub returns-then-one-wants : goal.returns-then-one-wants
returns-then-one-wants g c = record {
  reads = reads_as (reads_on c.in_ok-fit.ensures.reads reads_bad) (λ file known is within.
      refuses_wrong _ _ _ (this_field-sized file _ c.args.one.now c.if-one-lt4.false (sym (c.word.ensures file is.held) ∙ c.if-word-ne8.false)
      c.if-one-wants.true));
  size = tt;
}

pub returns-in_err-fit-2 : goal.returns-in_err-fit-2
returns-in_err-fit-2 g c =
    rw (err_is c.from_residual-in_err-fit-2.result c.from_residual-in_err-fit-2.ensures.1) (record {
      reads = reads_as (reads_on c.in_ok-fit.ensures.reads (reads_off c.in_err-fit-2.ensures.reads)) (λ file known is within.
          let room : c.args.one.now.at + 12 ≤ places file = omega (arith, within, c.if-one-wants.false, c.requires.room) in
          refuses_any _ _ _ (rw (fit-within 12 c.args.one.now.at (places file) room) at is.rest));
      size = tt;
    })

pub returns-then-long : goal.returns-then-long
returns-then-long g c = record {
  reads = reads_as (reads_on c.in_ok-fit.ensures.reads (reads_on c.in_ok-fit-2.ensures.reads reads_bad)) (λ file known is within.
      refuses_wrong _ _ _ (this_field-prime file _ c.args.one.now c.if-one-lt4.false (sym (c.word.ensures file is.held) ∙ c.if-word-ne8.false)
      c.if-one-wants.false ∙ rw (← c.long.ensures file is.rest.held) (grind (arith, nat_tests))));
  size = tt;
}

pub returns : goal.returns
returns g c = record {
  reads = reads_as (reads_on c.in_ok-fit.ensures.reads (reads_on c.in_ok-fit-2.ensures.reads reads_done)) (λ file known is within.
      this_field-prime file _ c.args.one.now c.if-one-lt4.false (sym (c.word.ensures file is.held) ∙ c.if-word-ne8.false) c.if-one-wants.false
      ∙ rw (← c.long.ensures file is.rest.held, c.if-long.false) (grind (arith, nat_tests)));
  size = c.if-one-wants.false;
}
