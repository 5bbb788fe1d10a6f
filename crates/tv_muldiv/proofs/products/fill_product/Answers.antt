use Rattle.tv_core.proofs.Common.{◌≡◌, ◌*◌, ◌/◌, ◌%◌, ◌^◌, arith, first_given, in_given, gives_refused_whole}
use Rattle.tv_muldiv.proofs.ProductLaws.{product_small}
use Rattle.tv_core.specs.declared.field.TheConstants.{P}
use Rattle.tv_muldiv.proofs.products.fill_product.Goals as goal

pub returns-in_err-fill_halves : goal.returns-in_err-fill_halves
returns-in_err-fill_halves g c =
    let halves = rw (c.from.ensures, c.from-2.ensures) at c.in_err-fill_halves.ensures.gives in
    gives_refused_whole _ _ _ _ _ _ c.from_residual.ensures (first_given _ halves)

pub returns-clause-gives : goal.returns-clause-gives
returns-clause-gives g c =
    let product = c.args.x * c.args.y in
    let below = product_small g.row.W c.requires.width c.args.x c.args.y c.requires.x_word c.requires.y_word in
    let small : product / 2 ^ g.row.W % P ≡ product / 2 ^ g.row.W = grind arith in
    let halves = rw (c.from.ensures, c.from-2.ensures) at c.in_ok-fill_halves.ensures.gives in
    let over = rw (c.of.ensures, c.from.ensures, c.from-2.ensures, small) at c.fill_nonzero.ensures.gives in
    in_given _ _ _ halves over
