use Rattle.tv_core.proofs.Common.{◌-◌, ap, arith, length, scaled}
use Rattle.tv_core.proofs.Unique.{normal-front}
use Rattle.tv_core.specs.declared.field.TheConstants.{P}
use Rattle.tv_network.proofs.costs.bound_terms.Goals as goal

pub returns-clause-is : goal.returns-clause-is
returns-clause-is c =
    let first = rw (c.terms.ensures.terms, c.clear.ensures) at c.add_terms.ensures.terms in
    let difference =
    rw (c.neg.ensures, c.terms-2.ensures.terms, first, normal-front c.args.y.now (scaled (P - 1) c.args.x.now)) at c.add_scaled.ensures.terms in
    let second = rw (c.terms-3.ensures.terms, c.clear-2.ensures) at c.add_terms-2.ensures.terms in
    let sum = rw (c.terms-4.ensures.terms, second, normal-front c.args.x.now c.args.y.now) at c.add_terms-3.ensures.terms in
    omega (
      arith,
      ap length c.terms-difference.ensures.terms,
      ap length difference,
      ap length c.terms-sum.ensures.terms,
      ap length sum,
      ap length c.terms-5.ensures.terms,
    )
