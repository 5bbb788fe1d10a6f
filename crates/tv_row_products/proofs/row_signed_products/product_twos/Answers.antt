use Rattle.tv_core.proofs.Common.{arith, rules}
use Rattle.tv_row_products.proofs.SignedNumbers.{product_low, product_all}
use Rattle.tv_row_products.proofs.row_signed_products.product_twos.Goals as goal

pub returns-then-this-eq16 : goal.returns-then-this-eq16
returns-then-this-eq16 g c =
    product_low g.row.W c.args.x c.args.y c.cast_unsigned-product.result c.signed_product.result c.requires.width c.requires.x_word c.requires.y_word
    (search rules) c.signed_product.ensures c.cast_unsigned-product.ensures c.if-this-eq16.true

pub returns-else-this-eq16 : goal.returns-else-this-eq16
returns-else-this-eq16 g c =
    product_all g.row.W c.args.x c.args.y c.cast_unsigned-product.result c.signed_product.result c.requires.width c.requires.x_word c.requires.y_word
    (search rules) c.signed_product.ensures c.cast_unsigned-product.ensures c.if-this-eq16.false (omega arith)
