use Rattle.tv_row_products.proofs.RowSignedProductLaws.{row_signed_product_sound, signed_product_fits, row_signed_product_complete}
use Rattle.tv_row_products.proofs.RowSignedProductLaws.{row_signed_product_sizes, row_signed_product_cost_laws}
use Rattle.tv_row_products.proofs.row_signed_products.row_signed_product_laws.Goals as goal

pub returns : goal.returns
returns c = record {
  sound = row_signed_product_sound;
  fits = signed_product_fits;
  complete = row_signed_product_complete;
  sizes = row_signed_product_sizes;
  costs = row_signed_product_cost_laws;
}
