use Rattle.labeltree.proofs.build.+sum_halves.Given as goal

abbrev pub decreases-sum_halves : goal.decreases-sum_halves
decreases-sum_halves l = l.level
