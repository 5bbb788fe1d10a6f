use Rattle.tv_muldiv.proofs.SignedHighLaws.{signed_high_sound, signed_high_complete, signed_high_sizes}
use Rattle.tv_muldiv.proofs.signed_products.signed_high_laws.Goals as goal

pub returns : goal.returns
returns c = record { sound = signed_high_sound; complete = signed_high_complete; sizes = signed_high_sizes }
