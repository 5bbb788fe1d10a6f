use Rattle.tv_benes.proofs.items.+source.Given as goal

abbrev pub decreases-source : goal.decreases-source
decreases-source l = l.h
