use Rattle.tv_benes.proofs.networks.+level.Given as goal

abbrev pub decreases-level : goal.decreases-level
decreases-level g l = l.h
