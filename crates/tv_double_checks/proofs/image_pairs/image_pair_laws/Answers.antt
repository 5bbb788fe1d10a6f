use Rattle.tv_double_checks.proofs.ImageLaws.{image_pair_sound, image_pair_complete, image_pair_normal, image_pair_sizes, image_pair_costs}
use Rattle.tv_double_checks.proofs.image_pairs.image_pair_laws.Goals as goal

pub returns : goal.returns
returns c = record {
  sound = image_pair_sound;
  complete = image_pair_complete;
  normal = image_pair_normal;
  sizes = image_pair_sizes;
  costs = image_pair_costs;
}
