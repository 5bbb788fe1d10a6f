use Rattle.tv_core.proofs.Common.{◌-◌, ap, arith, length, scaled}
use Rattle.tv_core.proofs.Unique.{normal-front}
use Rattle.tv_core.specs.declared.field.TheConstants.{P}
use Rattle.tv_network.proofs.costs.open_terms.Goals as goal

pub returns-clause-is : goal.returns-clause-is
returns-clause-is c =
    let first = rw (c.terms.ensures.terms, c.clear.ensures) at c.add_terms.ensures.terms in
    let difference =
    rw (c.neg.ensures, c.terms-2.ensures.terms, first, normal-front c.args.x.now (scaled (P - 1) c.args.y.now)) at c.add_scaled.ensures.terms in
    omega (arith, ap length c.terms-3.ensures.terms, ap length difference)
