use Rattle.tv_bits.proofs.PrefixLaws.{prefix_difference_sound, prefix_difference_complete, prefix_difference_sizes}
use Rattle.tv_bits.proofs.prefixes.prefix_difference_laws.Goals as goal

pub returns : goal.returns
returns c = record { sound = prefix_difference_sound; complete = prefix_difference_complete; sizes = prefix_difference_sizes }
