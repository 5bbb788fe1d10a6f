use Rattle.tv_core.proofs.Common.{refl, sym, ◌∙◌, arith, nat_tests}
use Rattle.tv_container.proofs.Chain.{err_is, not_refused, reads_as, reads_bad, reads_done, reads_off, reads_on, refuses_first, refuses_wrong, same_refusal}
use Rattle.tv_container.proofs.SectionLemmas.{fit-is, sections_in-magic, sections_in-version}
use Rattle.tv_container.specs.Sections.{sections_in}
use Rattle.tv_container.proofs.sections.section_count.Goals as goal

pub returns-in_err-fit : goal.returns-in_err-fit
unfolding sections_in
returns-in_err-fit g c =
    rw (err_is c.from_residual.result c.from_residual.ensures.1) (record {
      reads = reads_as (reads_off c.in_err-fit.ensures.reads) (λ file known refuses. refuses_first _ _ _ refuses);
      start = λ file known piece. tt;
      missing = λ missing none. same_refusal (c.in_err-fit.ensures.missing missing none (omega arith));
    })

pub returns-then-word-form : goal.returns-then-word-form
unfolding sections_in
returns-then-word-form g c = record {
  reads = reads_as (reads_on c.in_ok-fit.ensures.reads reads_bad) (λ file known is.
      refuses_wrong _ _ _ (rw (is.first, ← c.word.ensures file is.held) (grind (arith, nat_tests))));
  start = λ file known piece. tt;
  missing = λ missing none. not_refused (c.in_ok-fit.ensures.missing missing none (omega arith));
}

pub returns-in_err-fit-2 : goal.returns-in_err-fit-2
returns-in_err-fit-2 g c =
    rw (err_is c.from_residual-in_err-fit-2.result c.from_residual-in_err-fit-2.ensures.1) (record {
      reads = reads_as (reads_on c.in_ok-fit.ensures.reads (reads_off c.in_err-fit-2.ensures.reads)) (λ file known is.
          rw (sections_in-magic _ _ file _ is.first (sym (c.word.ensures file is.held) ∙ c.if-word-form.false)) (refuses_first _ _ _ is.rest));
      start = λ file known piece. tt;
      missing = λ missing none. not_refused (c.in_ok-fit.ensures.missing missing none (omega arith));
    })

pub returns-then-found-form : goal.returns-then-found-form
returns-then-found-form g c = record {
  reads = reads_as (reads_on c.in_ok-fit.ensures.reads (reads_on c.in_ok-fit-2.ensures.reads reads_bad)) (λ file known is.
      refuses_wrong _ _ _ (sections_in-magic _ _ file _ is.first (sym (c.word.ensures file is.held) ∙ c.if-word-form.false)
      ∙ rw (is.rest.first, ← c.word-found.ensures file is.rest.held) (grind (arith, nat_tests))));
  start = λ file known piece. tt;
  missing = λ missing none. not_refused (c.in_ok-fit.ensures.missing missing none (omega arith));
}

pub returns-in_err-fit-3 : goal.returns-in_err-fit-3
returns-in_err-fit-3 g c =
    rw (err_is c.from_residual-in_err-fit-3.result c.from_residual-in_err-fit-3.ensures.1) (record {
      reads = reads_as (reads_on c.in_ok-fit.ensures.reads (reads_on c.in_ok-fit-2.ensures.reads (reads_off c.in_err-fit-3.ensures.reads)))
          (λ file known is.
          rw (sections_in-version _ _ file _ _ is.first (sym (c.word.ensures file is.held) ∙ c.if-word-form.false)
          is.rest.first (sym (c.word-found.ensures file is.rest.held) ∙ c.if-found-form.false)) (refuses_first _ _ _ is.rest.rest));
      start = λ file known piece. tt;
      missing = λ missing none. not_refused (c.in_ok-fit.ensures.missing missing none (omega arith));
    })

pub returns : goal.returns
returns g c =
    let steps = reads_on c.in_ok-fit.ensures.reads (reads_on c.in_ok-fit-2.ensures.reads (reads_on c.in_ok-fit-3.ensures.reads reads_done)) in
    record {
      reads = reads_as steps (λ file known is.
          sections_in-version _ _ file _ _ is.first (sym (c.word.ensures file is.held) ∙ c.if-word-form.false)
          is.rest.first (sym (c.word-found.ensures file is.rest.held) ∙ c.if-found-form.false)
          ∙ rw (is.rest.rest.first, sym (c.word-2.ensures file is.rest.rest.held)) refl);
      start = λ file known piece. fit-is 4 8 _ _ (steps.gives file known piece).rest.rest.first;
      missing = λ missing none. not_refused (c.in_ok-fit.ensures.missing missing none (omega arith));
    }
