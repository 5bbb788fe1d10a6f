use Rattle.tv_shift.proofs.thermometer.Marks.+plus_mark.Given as goal

abbrev pub decreases-plus_mark : goal.decreases-plus_mark
decreases-plus_mark l = l.k
