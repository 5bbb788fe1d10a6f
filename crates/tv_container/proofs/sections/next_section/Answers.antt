use Rattle.tv_core.proofs.Common.{true, false, refl, sym, ◌∙◌}
use Rattle.tv_container.specs.Places.{places}
use Rattle.tv_container.specs.Sections.{section_at}
use Rattle.tv_container.proofs.Chain.{err_is, reads_as, reads_bad, reads_done, reads_off, reads_on, refuses_any, refuses_first, refuses_wrong}
use Rattle.tv_container.proofs.SectionLemmas.{fit-is, section_at-read}
use Rattle.tv_container.proofs.sections.next_section.Goals as goal

pub returns-in_err-fit : goal.returns-in_err-fit
unfolding section_at
returns-in_err-fit g c =
    rw (err_is c.from_residual.result c.from_residual.ensures.1) (record {
      reads = reads_as (reads_off c.in_err-fit.ensures.reads) (λ file known refuses sections found. refuses_first _ _ _ refuses);
      place = tt;
    })

pub returns-then-doubles : goal.returns-then-doubles
unfolding section_at
returns-then-doubles g c = record {
  reads = reads_as (reads_on c.in_ok-fit.ensures.reads reads_bad) (λ file known is sections found.
      refuses_wrong _ _ _ (rw (is.first, ← c.word.ensures file is.held, sym (c.doubles.ensures sections found) ∙ c.if-doubles.true) refl));
  place = tt;
}

pub returns-in_err-reaches_end : goal.returns-in_err-reaches_end
returns-in_err-reaches_end g c =
    rw (err_is c.from_residual-in_err-reaches_end.result c.from_residual-in_err-reaches_end.ensures.1) (record {
      reads = reads_as (reads_on c.in_ok-fit.ensures.reads (reads_off c.in_err-reaches_end.ensures.reads)) (λ file known is sections found.
          refuses_any _ _ _ (is.rest (fit-is 12 c.args.at (places file) _ is.first)));
      place = tt;
    })

pub returns-then-not-branch : goal.returns-then-not-branch
returns-then-not-branch g c = record {
  reads = reads_as (reads_on c.in_ok-fit.ensures.reads (reads_on c.in_ok-reaches_end.ensures.reads reads_bad)) (λ file known is sections found.
      refuses_wrong _ _ _ (section_at-read _ _ _ _ file sections _ false is.first (sym (c.word.ensures file is.held)) (sym (c.long.ensures file is.held))
      (sym (c.doubles.ensures sections found) ∙ c.if-doubles.false) (cc (is.rest.first (fit-is 12 c.args.at (places file) _ is.first)))));
  place = tt;
}

pub returns : goal.returns
returns g c = record {
  reads = reads_as (reads_on c.in_ok-fit.ensures.reads (reads_on c.in_ok-reaches_end.ensures.reads reads_done)) (λ file known is sections found.
      section_at-read _ _ _ _ file sections _ true is.first (sym (c.word.ensures file is.held)) (sym (c.long.ensures file is.held))
      (sym (c.doubles.ensures sections found) ∙ c.if-doubles.false) (cc (is.rest.first (fit-is 12 c.args.at (places file) _ is.first))));
  place = c.in_ok-reaches_end.ensures.place c.if-not-branch.false;
}
