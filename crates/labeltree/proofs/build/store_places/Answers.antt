-- `labeltree::build::store_places` meets its contract. The invariant: the places before this one are stored.
use Rattle.label.specs.Code.{label_in, whole_ids}
use Rattle.tree.proofs.Building.{place_turn, place_none}
use Rattle.labeltree.proofs.build.store_places.Goals as goal

pub loop-place-init : goal.loop-place-init
loop-place-init c = place_none c.args.places (whole_ids c.args.ids.now) c.args.tree.now

pub loop-place-preserved : goal.loop-place-preserved
loop-place-preserved c =
    let a = c.args in
    let l = c.loop-place in
    place_turn a.places l.place (whole_ids a.ids.now) a.tree.now l.tree c.put_label.new.tree (label_in c.label_of_place.result) l.invariant c.label_of_place.ensures c.put_label.ensures
