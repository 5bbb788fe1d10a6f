use Rattle.tv_core.proofs.Common.{◌%◌, ◌∙◌, ap, arith, refl}
use Rattle.tv_core.specs.declared.field.TheConstants.{P}
use Rattle.std.proofs.Common.{zero-add}
use Rattle.tv_container.proofs.Chain.{reads_as, reads_done, reads_on}
use Rattle.tv_r1cs_read.proofs.Sums.{sums_to, three}
use Rattle.tv_r1cs_read.proofs.far_trial.try_far.Goals as goal

pub returns-clause-reads : goal.returns-clause-reads
returns-clause-reads g c =
    let first = c.in_ok-next.ensures.reads in
    let second = c.in_ok-next-2.ensures.reads in
    let third = c.in_ok-next-3.ensures.reads in
    reads_as (reads_on first.2 (reads_on second.2 (reads_on third.2 reads_done))) (λ file known is end.
    let sum = sums_to _ c.args.values.now third.0 0 c.read_far-3.new.taker _ _ (is.rest.rest.first end) (omega (arith, third.1.took.is)) third.1.size in
    three file _ _ _ _ _ _ _ _ _ _ _ _ _
    (sums_to _ _ first.0 0 c.read_far.new.taker _ _ (is.first end) (omega (arith, first.1.took.is)) first.1.size)
    (sums_to _ _ second.0 0 c.read_far-2.new.taker _ _ (is.rest.first end) (omega (arith, second.1.took.is)) second.1.size) sum
    (rw (c.eq.ensures, c.mul.ensures, c.value.ensures, c.value-2.ensures) refl) (c.value-3.ensures ∙ ap (λ s. s % P) (sum.is ∙ zero-add _)))
