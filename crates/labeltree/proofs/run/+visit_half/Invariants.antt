use Rattle.labeltree.proofs.run.+visit_half.Given as goal

abbrev pub decreases-visit_half : goal.decreases-visit_half
decreases-visit_half l = l.level
