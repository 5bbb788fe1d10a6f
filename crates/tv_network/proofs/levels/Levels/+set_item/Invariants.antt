use Rattle.tv_network.proofs.levels.Levels.+set_item.Given as goal

abbrev pub decreases-set_item : goal.decreases-set_item
decreases-set_item g k = k.l
