use Rattle.tv_core.proofs.Common.{◌≡◌, ◌-◌, ◌/◌, ◌^◌, ◌<◌, ◌∙◌, ap₂, arith, first_given, in_given, gives_refused_whole}
use Rattle.tv_bits.specs.Order.{first_difference}
use Rattle.tv_muldiv.proofs.QuotientNumbers.{above-below}
use Rattle.tv_muldiv.specs.Quotient.{above_in}
use Rattle.tv_word.specs.Operations.{umod_result}
use Rattle.tv_muldiv.proofs.quotients.fill_above.Goals as goal

pub returns-in_err-fill_bits : goal.returns-in_err-fill_bits
returns-in_err-fill_bits g c =
    let rem : c.from-rem.result ≡ umod_result c.args.x c.args.y = c.from-rem.ensures ∙ c.remainder.ensures.word in
    let above : c.first_difference-above.result ≡ above_in g.row.W c.args.x c.args.y =
    c.first_difference-above.ensures ∙ ap₂ (first_difference (g.row.W / 4) 4) c.from-y.ensures rem in
    let below = above-below g.row.W c.requires.width c.args.x c.args.y c.requires.y_word in
    let small : above_in g.row.W c.args.x c.args.y < 2 ^ 8 = grind arith in
    let one_less : c.of.result ≡ above_in g.row.W c.args.x c.args.y - 1 = omega (arith, c.of.ensures, c.saturating_sub.ensures) in
    let bits = rw one_less at c.in_err-fill_bits.ensures.gives in
    gives_refused_whole _ _ _ _ _ _ c.from_residual.ensures (first_given _ bits)

pub returns-clause-gives : goal.returns-clause-gives
returns-clause-gives g c =
    let rem : c.from-rem.result ≡ umod_result c.args.x c.args.y = c.from-rem.ensures ∙ c.remainder.ensures.word in
    let above : c.first_difference-above.result ≡ above_in g.row.W c.args.x c.args.y =
    c.first_difference-above.ensures ∙ ap₂ (first_difference (g.row.W / 4) 4) c.from-y.ensures rem in
    let below = above-below g.row.W c.requires.width c.args.x c.args.y c.requires.y_word in
    let small : above_in g.row.W c.args.x c.args.y < 2 ^ 8 = grind arith in
    let one_less : c.of.result ≡ above_in g.row.W c.args.x c.args.y - 1 = omega (arith, c.of.ensures, c.saturating_sub.ensures) in
    let same : c.of-2.result ≡ above_in g.row.W c.args.x c.args.y = omega (arith, c.of-2.ensures) in
    let bits = rw one_less at c.in_ok-fill_bits.ensures.gives in
    let products = rw (same, rem, c.from-y.ensures) at c.fill_prefix_difference.ensures.gives in
    in_given _ _ _ bits products
