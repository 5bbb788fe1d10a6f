use Rattle.tv_core.proofs.Common.{◌≡◌, suc, ◌-◌, ◌*◌, ◌%◌, ◌^◌, ◌∙◌, sym, ap, arith}
use Rattle.tv_core.proofs.BelowLaws.{weighted-suc}
use Rattle.tv_bits.specs.Bits.{bits_combination}
use Rattle.tv_core.specs.declared.field.TheConstants.{P}
use Rattle.tv_muldiv.specs.Weighed.{weighed}
use Rattle.tv_muldiv.proofs.numbers.set_long_number.Goals as goal

pub returns-clause-terms : goal.returns-clause-terms
returns-clause-terms g c =
    let w = g.row.W in
    let last : suc (2 * w - 1) ≡ 2 * w = grind arith in
    let power : 1 * 2 ^ (2 * w - 1) % 2 ^ 64 ≡ 2 ^ (2 * w - 1) = grind arith in
    c.set_weighed.ensures.terms ∙ ap (λ k. weighed c.args.first (2 * w) k) (c.of.ensures ∙ ap (λ n. n % P) power)
    ∙ sym (weighted-suc c.args.first (2 * w - 1) (λ i. 2 ^ i % P)) ∙ ap (λ n. bits_combination c.args.first n) last
