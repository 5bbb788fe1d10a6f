use Rattle.tv_benes.proofs.values.+fill_level.Given as goal

abbrev pub decreases-fill_level : goal.decreases-fill_level
decreases-fill_level g l = l.h
