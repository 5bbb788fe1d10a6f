use Rattle.tv_bits.proofs.OneHotLaws.{onehot_sound, onehot_complete}
use Rattle.tv_bits.proofs.SizeLaws.{onehot_sizes}
use Rattle.tv_bits.proofs.rows.onehot_laws.Goals as goal

pub returns : goal.returns
returns c = record { sound = onehot_sound; complete = onehot_complete; sizes = onehot_sizes }
