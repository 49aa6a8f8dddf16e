use mathlib.Core.Path.{◌≡◌}
use Rattle.label.specs.Code.{whole_ids}
use Rattle.tree.specs.Private.{placed}
use Rattle.labeltree.proofs.build.store_places.Given as goal

abbrev pub invariant-loop-place : goal.invariant-loop-place
invariant-loop-place l = l.tree ≡ placed l.places (whole_ids l.ids) l.place l.initial.tree
