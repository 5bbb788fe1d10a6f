use Rattle.tv_core.proofs.Common.{◌≡◌, ◌-◌, ◌%◌, ◌==◌, ◌^◌, ◌∙◌, ap₂, arith, rules}
use Rattle.tv_core.specs.declared.field.TheConstants.{P}
use Rattle.tv_r1cs_read.proofs.Sums.{three_added}
use Rattle.tv_r1cs_read.proofs.held_trial.try_held.Goals as goal

pub returns-clause-gives : goal.returns-clause-gives
returns-clause-gives g c = λ file piece.
    let whole : c.without.result ≡ 2 ^ 128 - 1 = omega (arith, c.without.ensures) in
    let test : c.eq.result ≡ (c.value.result == c.value-2.result) = search rules in
    let last : c.value-2.result ≡ (2 ^ 128 - 1) % P = rw whole at c.value-2.ensures in
    three_added file _ _ _ _ _ _ _ _ _ _ _ _ _ _ _
    (rw c.new.ensures at (c.in_ok-a.ensures.gives file piece)) (rw c.new-2.ensures at (c.in_ok-b.ensures.gives file piece)) (c.in_ok-c.ensures.gives file piece)
    c.residue.ensures c.residue-2.ensures c.without-rest.ensures
    (test ∙ ap₂ (λ m n. m == n) c.value.ensures last)
