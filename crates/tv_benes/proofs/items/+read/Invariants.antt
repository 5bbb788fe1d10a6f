use Rattle.tv_benes.specs.Items.{depth_of}
use Rattle.tv_benes.proofs.items.+read.Given as goal

abbrev pub decreases-read : goal.decreases-read
decreases-read l = depth_of l.items.now
