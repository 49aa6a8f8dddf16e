-- `labeltree::append::check_place` meets its contract.
use native.Mathlib.Omega.{arith}
use Rattle.tree.specs.Tree.{depth_of}
use Rattle.tree.proofs.Calls.{place_wrong, place-full, place_free, size_wrong, size_right}
use Rattle.labeltree.proofs.append.check_place.Goals as goal
use Rattle.labeltree.proofs.append.check_place.Goals.{then-not-has_size-via-then-not-has_size, then-not-has_size-via-else-not-has_size+then-depth-n}

pub returns-then-not-has_size : goal.returns-then-not-has_size
returns-then-not-has_size c =
    let a = c.args in
    let d = c.depth_of-depth in
    elim c.then-not-has_size.branch [
      | then-not-has_size-via-then-not-has_size w ↦ place_wrong a.n a.len (size_wrong (depth_of a.n) a.len d.result.places d.ensures.1 _ c.has_size.ensures w.if-not-has_size.true)
      | then-not-has_size-via-else-not-has_size+then-depth-n w ↦
          place-full a.n a.len (size_right (depth_of a.n) a.len d.result.places d.ensures.1 _ c.has_size.ensures w.if-not-has_size.false) (omega (arith, d.ensures.1))
    ]

pub returns : goal.returns
returns c =
    let a = c.args in
    let d = c.depth_of-depth in
    place_free a.n a.len (size_right (depth_of a.n) a.len d.result.places d.ensures.1 _ c.has_size.ensures c.if-not-has_size.false) (omega (arith, d.ensures.1))
