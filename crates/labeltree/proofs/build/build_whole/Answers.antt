-- `labeltree::build::build_whole` meets its contract.
use native.Mathlib.Omega.{arith}
use Rattle.tree.specs.Tree.{depth_of}
use Rattle.tree.proofs.Levels.{power, double}
use Rattle.tree.proofs.Places.{whole_stored}
use Rattle.labeltree.proofs.build.build_whole.Goals as goal

pub store_places-requires : goal.store_places-requires
store_places-requires c =
    let k = depth_of c.args.n in
    let p = c.depth_of-depth.ensures.1 in
    (omega (arith, p, power k), omega (arith, p, c.requires.1, double k))

pub returns : goal.returns
returns c =
    let a = c.args in
    let d = c.depth_of-depth in
    let p = c.store_places in
    whole_stored a.ids.now a.tree.now p.new.tree c.sum_halves.new.tree a.n d.result.levels d.result.places c.requires.0 c.requires.1 d.ensures.0 d.ensures.1 p.ensures c.sum_halves.ensures
