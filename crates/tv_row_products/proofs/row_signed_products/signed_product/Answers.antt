use Rattle.tv_word.proofs.SignedLaws.{product_fits, product_is}
use Rattle.tv_row_products.proofs.row_signed_products.signed_product.Goals as goal

pub overflow_mul-result : goal.overflow_mul-result
overflow_mul-result g c =
    product_fits g.row.W c.args.x c.args.y c.signed_word.result c.signed_word-2.result c.requires.width c.requires.x_word c.requires.y_word
    c.signed_word.ensures c.signed_word-2.ensures

pub returns : goal.returns
returns g c =
    product_is g.row.W c.args.x c.args.y c.signed_word.result c.signed_word-2.result c.requires.width c.requires.x_word c.requires.y_word
    c.signed_word.ensures c.signed_word-2.ensures
