use Rattle.tv_core.proofs.Common.{◌+◌, ◌*◌, ◌≤◌, ap, sym, ◌∙◌, arith}
use Rattle.tv_container.specs.Places.{places}
use Rattle.tv_container.proofs.Chain.{err_is, refuses_any, refuses_first}
use Rattle.tv_wtns.specs.Wtns.{assignment_in}
use Rattle.tv_wtns.proofs.Sections.{filled, misfilled}
use Rattle.tv_wtns.proofs.assignment.read_assignment.Goals as goal

pub returns-in_err-this_field-clause-gives : goal.returns-in_err-this_field-clause-gives
unfolding assignment_in
returns-in_err-this_field-clause-gives g c = λ file known piece end sections found fit.
    let one_is = ap (λ fields. fields.one) found in
    let within = fit.fits 1 c.in_ok-one.one (sym one_is ∙ c.in_ok-one.ensures.same) in
    rw (err_is c.from_residual-in_err-this_field.result c.from_residual-in_err-this_field.ensures.1)
    (rw (c.in_ok-one.ensures.gives file end sections one_is, c.in_ok-two.ensures.gives file end sections (ap (λ fields. fields.two) found))
    (refuses_first _ _ _ (refuses_first _ _ _ (c.in_err-this_field.ensures.reads.gives file known piece within))))

pub returns-in_err-count-clause-gives : goal.returns-in_err-count-clause-gives
returns-in_err-count-clause-gives g c = λ file known piece end sections found fit.
    let one_is = ap (λ fields. fields.one) found in
    let within = fit.fits 1 c.in_ok-one.one (sym one_is ∙ c.in_ok-one.ensures.same) in
    let room : c.in_ok-one.one.at + 16 ≤ places file = omega (arith, within, c.in_ok-this_field.ensures.size) in
    rw (err_is c.from_residual-in_err-count.result c.from_residual-in_err-count.ensures.1)
    (refuses_any _ _ _ (c.in_err-count.ensures.reads.gives file (rw (← c.in_ok-this_field.ensures.reads.looks) at known)
    (c.in_ok-this_field.ensures.reads.piece file known piece) room))

pub returns-in_err-fills-clause-gives : goal.returns-in_err-fills-clause-gives
returns-in_err-fills-clause-gives g c = λ file known piece end sections found fit.
    let one_is = ap (λ fields. fields.one) found in
    let within = fit.fits 1 c.in_ok-one.one (sym one_is ∙ c.in_ok-one.ensures.same) in
    let room : c.in_ok-one.one.at + 16 ≤ places file = omega (arith, within, c.in_ok-this_field.ensures.size) in
    let counts = c.in_ok-count.ensures.reads.gives file (rw (← c.in_ok-this_field.ensures.reads.looks) at known)
    (c.in_ok-this_field.ensures.reads.piece file known piece) room in
    rw (err_is c.from_residual-in_err-fills.result c.from_residual-in_err-fills.ensures.1) (refuses_first _ _ _ (misfilled file sections _ _ _ _ _
    (c.in_ok-one.ensures.gives file end sections one_is) (c.in_ok-two.ensures.gives file end sections (ap (λ fields. fields.two) found))
    (c.in_ok-this_field.ensures.reads.gives file known piece within) counts c.in_err-fills.ensures.gives))

pub returns-clause-gives : goal.returns-clause-gives
returns-clause-gives g c = λ file known piece end sections found fit.
    let one_is = ap (λ fields. fields.one) found in
    let two_is = ap (λ fields. fields.two) found in
    let within = fit.fits 1 c.in_ok-one.one (sym one_is ∙ c.in_ok-one.ensures.same) in
    let room : c.in_ok-one.one.at + 16 ≤ places file = omega (arith, within, c.in_ok-this_field.ensures.size) in
    let on = rw (← c.in_ok-this_field.ensures.reads.looks) at known in
    let counts = c.in_ok-count.ensures.reads.gives file on (c.in_ok-this_field.ensures.reads.piece file known piece) room in
    let values : c.in_ok-two.two.at + 8 * c.in_ok-count.count
    ≤ places file = omega (arith, fit.fits 2 c.in_ok-two.two (sym two_is ∙ c.in_ok-two.ensures.same), c.in_ok-fills.ensures.size) in
    rw (filled file sections _ _ _ _ _
    (c.in_ok-one.ensures.gives file end sections one_is) (c.in_ok-two.ensures.gives file end sections two_is)
    (c.in_ok-this_field.ensures.reads.gives file known piece within) counts c.in_ok-fills.ensures.gives)
    (c.read_all.ensures.gives file (rw (← c.in_ok-count.ensures.reads.looks) at on)
    (c.in_ok-count.ensures.reads.piece file on (c.in_ok-this_field.ensures.reads.piece file known piece)) values)
