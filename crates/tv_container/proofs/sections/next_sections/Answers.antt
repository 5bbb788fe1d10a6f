use Rattle.tv_core.proofs.Common.{◌≡◌, ◌-◌, ◌+◌, ◌<◌, ◌≤◌, [], ◌∷◌, ◌++◌, length, arith, ◌∙◌, refl, nat_tests}
use Rattle.tv_container.proofs.Chain.{err_is, reads_as, reads_off, reads_on, reads_past, refuses_any, refuses_wrong, stopped_bad}
use Rattle.tv_container.proofs.SectionLemmas.{sections_from-next, sections_from-refuses, sections_from-end, sections_from-trailing, section_at-fits}
use Rattle.tv_container.proofs.sections.next_sections.Goals as goal

pub loop-init : goal.loop-init
loop-init g c = record {
  ends = c.none-found.ensures.ends;
  reads = record {
    looks = refl;
    piece = λ file known piece. piece;
    gives = λ file known piece starts. let all : c.args.count - 0 ≡ c.args.count = omega arith in (starts, ([], c.none-found.ensures.found, rw all refl));
  };
}

pub returns-in_err-section : goal.returns-in_err-section
returns-in_err-section g c =
    let left : c.args.count - c.loop.counter ≡ c.args.count - (c.loop.counter + 1) + 1 = omega (arith, c.loop-test.true) in
    rw (err_is c.from_residual.result c.from_residual.ensures.1) (record {
      reads = reads_as (reads_on c.loop.invariant.reads (reads_off c.in_err-section.ensures.reads)) (λ file known is starts.
          let so_far = is.first starts in
          rw so_far.1.2 (sections_from-refuses _ _ _ _ _ _ _ left (is.rest so_far.1.0 so_far.1.1)));
      ends = tt;
    })

pub loop-preserved : goal.loop-preserved
loop-preserved g c =
    let left : c.args.count - c.loop.counter ≡ c.args.count - (c.loop.counter + 1) + 1 = omega (arith, c.loop-test.true) in
    record {
      ends = c.and-found.ensures.ends c.loop.invariant.ends c.in_ok-section.ensures.place;
      reads = reads_past (reads_as (reads_on c.loop.invariant.reads c.in_ok-section.ensures.reads) (λ file known is starts.
          let so_far = is.first starts in
          let read = is.rest so_far.1.0 so_far.1.1 in (
            section_at-fits _ _ _ _ _ read,
            (
              so_far.1.0 ++ c.in_ok-section.section ∷ [],
              c.and-found.ensures.found so_far.1.0 so_far.1.1,
              so_far.1.2 ∙ sections_from-next _ _ _ _ _ _ _ left read,
            ),
          )));
    }

pub returns-in_err-ends : goal.returns-in_err-ends
returns-in_err-ends g c =
    let step = c.loop.invariant.reads in
    rw (err_is c.from_residual-in_err-ends.result c.from_residual-in_err-ends.ensures.1) (record {
      reads = record {
        looks = rw step.looks at c.in_err-ends.ensures.looks;
        piece = λ file known piece. tt;
        gives = λ file known piece starts. refuses_any _ _ _ (c.in_err-ends.ensures.gives file (rw (← step.looks) at known));
      };
      ends = tt;
    })

pub returns-then-not-branch : goal.returns-then-not-branch
returns-then-not-branch g c =
    let step = c.loop.invariant.reads in
    let none : c.args.count - c.loop.counter ≡ 0 = omega (arith, c.loop-test.false) in
    record {
      reads = record {
        looks = rw (c.in_ok-ends.ensures.looks, step.looks) (stopped_bad _ _ _ _);
        piece = λ file known piece. tt;
        gives = λ file known piece starts.
            let so_far = step.gives file known piece starts in
            let ends = c.in_ok-ends.ensures.gives file (rw (← step.looks) at known) in
            let past : c.loop.at < length file = grind (arith, nat_tests) in
            refuses_wrong _ _ _ (so_far.1.2 ∙ sections_from-trailing _ _ _ _ _ none past);
      };
      ends = tt;
    }

pub returns : goal.returns
returns g c =
    let step = c.loop.invariant.reads in
    let none : c.args.count - c.loop.counter ≡ 0 = omega (arith, c.loop-test.false) in
    record {
      reads = record {
        looks = c.in_ok-ends.ensures.looks ∙ step.looks;
        piece = step.piece;
        gives = λ file known piece starts.
            let so_far = step.gives file known piece starts in
            let ends = c.in_ok-ends.ensures.gives file (rw (← step.looks) at known) in
            let within : length file ≤ c.loop.at = grind (arith, nat_tests) in
            let end : c.loop.at ≡ length file = omega (arith, so_far.0) in
            (so_far.1.0, so_far.1.2 ∙ sections_from-end _ _ _ _ _ none end, so_far.1.1, end);
      };
      ends = c.loop.invariant.ends;
    }
