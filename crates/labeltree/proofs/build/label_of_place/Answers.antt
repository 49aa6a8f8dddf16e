-- `labeltree::build::label_of_place` meets its contract.
use native.Mathlib.Omega.{arith}
use Rattle.label.specs.Code.{label_in}
use Rattle.tree.proofs.Places.{place-behind, place-there}
use Rattle.labeltree.proofs.build.label_of_place.Goals as goal

pub returns-then-ids-place : goal.returns-then-ids-place
returns-then-ids-place c =
    let a = c.args in
    place-behind a.ids.now a.place c.if-ids-place.true

pub returns : goal.returns
returns c =
    let a = c.args in
    place-there a.ids.now a.place (label_in c.of_id.result) (omega (arith, c.if-ids-place.false)) c.of_id.ensures
