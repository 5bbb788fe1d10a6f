use Rattle.tv_route.proofs.FromSorts.{permutes_of}
use Rattle.tv_route.proofs.laws.rearranged_is_a_permutation.Goals as goal

pub returns : goal.returns
returns c = permutes_of
