use Rattle.tv_core.proofs.Common.{refl}
use Rattle.tv_plan.specs.Inputs.{inputs_of}
use Rattle.tv_plan.proofs.LookLaws.{finds_on, finds_short, finds_still}
use Rattle.tv_plan.proofs.inputs.read_inputs.Goals as goal

pub returns-in_err-program-clause-found : goal.returns-in_err-program-clause-found
unfolding inputs_of
returns-in_err-program-clause-found g c = finds_short _ _ _ _ c.from_residual.ensures.1 c.in_err-program.ensures.found

pub returns-in_err-tape-clause-found : goal.returns-in_err-tape-clause-found
unfolding inputs_of
returns-in_err-tape-clause-found g c =
    let tape = rw c.word_bound-below.ensures at c.in_err-tape.ensures.found in
    finds_on _ c.in_ok-program.ensures.found (finds_short _ _ _ _ c.from_residual-in_err-tape.ensures.1 tape)

pub returns-in_err-aux-clause-found : goal.returns-in_err-aux-clause-found
unfolding inputs_of
returns-in_err-aux-clause-found g c =
    let tape = rw c.word_bound-below.ensures at c.in_ok-tape.ensures.found in
    let aux = rw c.word_bound-below.ensures at c.in_err-aux.ensures.found in
    finds_on _ c.in_ok-program.ensures.found (finds_on _ tape (finds_short _ _ _ _ c.from_residual-in_err-aux.ensures.1 aux))

pub returns-clause-found : goal.returns-clause-found
unfolding inputs_of
returns-clause-found g c =
    let tape = rw c.word_bound-below.ensures at c.in_ok-tape.ensures.found in
    let aux = rw c.word_bound-below.ensures at c.in_ok-aux.ensures.found in
    finds_on _ c.in_ok-program.ensures.found (finds_on _ tape (finds_on _ aux (finds_still (λ files known. refl))))

pub returns-clause-fit : goal.returns-clause-fit
returns-clause-fit g c = record {
  image = c.in_ok-program.ensures.fits;
  tape = rw c.word_bound-below.ensures at c.in_ok-tape.ensures.below;
  tape_fits = c.in_ok-tape.ensures.few;
  aux = rw c.word_bound-below.ensures at c.in_ok-aux.ensures.below;
  aux_fits = c.in_ok-aux.ensures.few;
}
