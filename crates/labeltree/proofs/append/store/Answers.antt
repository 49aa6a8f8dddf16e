-- `labeltree::append::store` meets its contract.
use mathlib.Core.Path.{◌≡◌, ◌∙◌}
use native.Mathlib.Omega.{arith}
use lib.ListN.{length}
use Rattle.label.specs.Code.{label_in}
use Rattle.tree.specs.Tree.{depth_of}
use Rattle.tree.proofs.Levels.{power, double}
use Rattle.tree.proofs.Places.{one-id}
use Rattle.tree.proofs.Climbing.{above_place, store_is}
use Rattle.labeltree.proofs.append.store.Goals as goal

pub put_label-requires : goal.put_label-requires
put_label-requires c =
    let k = depth_of c.args.n in
    omega (arith, double k, power k, c.depth_of-depth.ensures.1)

pub renew_above-requires : goal.renew_above-requires
renew_above-requires c =
    let k = depth_of c.args.n in
    let d = c.depth_of-depth in
    let kept : length c.put_label.new.tree ≡ length c.args.tree.now = c.put_label.auto.tree in
    rw d.ensures.0 (above_place (length c.put_label.new.tree) k c.args.n d.result.places (kept ∙ c.requires.1) d.ensures.1 (omega (arith, d.ensures.1)))

pub returns : goal.returns
returns c =
    let d = c.depth_of-depth in
    let l = label_in c.of_id.result in
    store_is (depth_of c.args.n) c.args.n d.result.levels d.result.places c.args.id.now c.args.tree.now c.put_label.new.tree c.renew_above.new.tree l
    d.ensures.0 d.ensures.1 (one-id c.args.id.now l c.requires.0 c.of_id.ensures) c.put_label.ensures c.renew_above.ensures

pub overflow_add-at : goal.overflow_add-at
overflow_add-at c =
    let k = depth_of c.args.n in
    omega (arith, double k, power k, c.depth_of-depth.ensures.1)
