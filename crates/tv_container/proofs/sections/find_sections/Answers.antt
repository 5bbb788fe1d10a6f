use Rattle.tv_container.proofs.Chain.{err_is, not_refused, reads_as, reads_off, reads_on, refuses_first, same_refusal}
use Rattle.tv_container.proofs.SectionLemmas.{sections_of-counted}
use Rattle.tv_container.specs.Sections.{sections_of}
use Rattle.tv_container.proofs.sections.find_sections.Goals as goal

pub returns-in_err-count : goal.returns-in_err-count
unfolding sections_of
returns-in_err-count g c =
    rw (err_is c.from_residual.result c.from_residual.ensures.1) (record {
      reads = reads_as (reads_off c.in_err-count.ensures.reads) (λ file known refuses. refuses_first _ _ _ refuses);
      ends = tt;
      missing = λ missing none. same_refusal (c.in_err-count.ensures.missing missing none);
    })

pub returns : goal.returns
returns g c =
    let steps = reads_on c.in_ok-count.ensures.reads c.next_sections.ensures.reads in
    record {
      reads = record {
        looks = steps.looks;
        piece = steps.piece;
        gives = λ file known piece.
            let is = steps.gives file known piece in
            rw (sections_of-counted _ _ _ _ file is.first) (is.rest (c.in_ok-count.ensures.start file known piece));
      };
      ends = c.next_sections.ensures.ends;
      missing = λ missing none. not_refused (c.in_ok-count.ensures.missing missing none);
    }
