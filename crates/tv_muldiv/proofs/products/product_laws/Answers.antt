use Rattle.tv_muldiv.proofs.ProductLaws.{product_sound, product_complete, product_sizes}
use Rattle.tv_muldiv.proofs.products.product_laws.Goals as goal

pub returns : goal.returns
returns c = record { sound = product_sound; complete = product_complete; sizes = product_sizes }
