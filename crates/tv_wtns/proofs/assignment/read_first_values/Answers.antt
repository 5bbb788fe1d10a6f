use Rattle.tv_container.proofs.SectionLemmas.{sections_of-fit}
use Rattle.tv_wtns.specs.Wtns.{assignment_of}
use Rattle.tv_wtns.proofs.assignment.read_first_values.Goals as goal

pub returns-clause-gives : goal.returns-clause-gives
unfolding assignment_of
returns-clause-gives g c = λ file known.
    let found = c.in_ok-found.ensures.reads.gives file known (c.new-window.ensures.piece file) in
    let gives = c.read_assignment.ensures.gives file (rw (← c.in_ok-found.ensures.reads.looks) at known)
    (c.in_ok-found.ensures.reads.piece file known (c.new-window.ensures.piece file))
    found.3 found.0 found.2 (sections_of-fit _ _ _ file found.0 found.1) in
    rw found.1 gives
