use Rattle.tv_lines.proofs.SortedLaws.{sorted_pair_sound}
use Rattle.tv_lines.proofs.SortedComplete.{sorted_pair_complete}
use Rattle.tv_lines.proofs.SortedSizes.{sorted_pair_fill}
use Rattle.tv_lines.proofs.sorted_pairs.sorted_pair_laws.Goals as goal

pub returns : goal.returns
returns c = record { sound = sorted_pair_sound; complete = sorted_pair_complete; sizes = sorted_pair_fill }
