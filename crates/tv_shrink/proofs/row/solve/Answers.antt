use Rattle.tv_core.proofs.Common.{◌≡◌, ℕ, ◌-◌, ◌*◌, ◌%◌, ◌∙◌, ap, arith, length, refl, sym, length-map, scaled, normal}
use Rattle.tv_core.proofs.InverseLaws.{inverse_of-below, inverse_of_is, mul-inverse_of}
use Rattle.tv_core.proofs.Unique.{normal-same}
use Rattle.tv_core.specs.Inverse.{inverse_of}
use Rattle.tv_core.specs.declared.field.TheConstants.{P}
use Rattle.tv_shrink.proofs.Constants.{scaled_once}
use Rattle.tv_shrink.proofs.Linear.{negative, scaled-same}
use Rattle.tv_shrink.proofs.row.solve.Goals as goal

pub returns-else-ne-clause-is : goal.returns-else-ne-clause-is
returns-else-ne-clause-is c =
    let is : c.args.own ≡ P - 1 = grind arith in
    let one : P - 1 ≡ inverse_of (P - 1) = inverse_of_is (P - 1) (P - 1) (omega arith) refl in
    let own = ap inverse_of is in
    let factor : P - inverse_of c.args.own ≡ 1 = omega (arith, own, one) in
    sym (ap (λ k. normal (scaled k c.args.terms.now)) factor ∙ ap normal (scaled_once 0 c.args.terms.now c.requires.normal)
    ∙ normal-same c.args.terms.now c.requires.normal)

pub returns-then-ne-clause-is : goal.returns-then-ne-clause-is
returns-then-ne-clause-is c =
    let one = mul-inverse_of c.args.own (λ none. omega arith) in
    let shown = negative c.args.own (inverse_of c.args.own) (inverse_of-below c.args.own) one in
    c.scale.ensures ∙ ap (λ k. scaled k c.args.terms.now) (c.neg-then-ne.ensures ∙ ap (λ i. (P - i) % P) c.inverse_or_zero.ensures ∙ shown)
    ∙ scaled-same c.args.own c.args.terms.now c.requires.apart (omega arith) c.requires.normal

pub returns-then-ne-clause-size : goal.returns-then-ne-clause-size
returns-then-ne-clause-size c = ap length c.scale.ensures ∙ length-map {B = ℕ × ℕ} c.args.terms.now (λ (t : ℕ × ℕ). (c.neg-then-ne.result * t.0 % P, t.1))
