-- `sortedids::place::place_between` meets its contract. The invariant: the place of the id lies between lo and hi.
use Prim.Native.Nat.{◌+◌, ◌-◌, ◌/◌}
use native.Mathlib.Omega.{arith}
use lib.ListN.{take}
use borrow.Author.Tests.{ltb-true, ltb-false}
use Rattle.sortedids.proofs.Places.{above-id, not-above-id}
use Rattle.sortedids.proofs.place.place_between.Goals as goal

pub loop-lo-preserved-then-comes_before : goal.loop-lo-preserved-then-comes_before
loop-lo-preserved-then-comes_before c =
    let l = c.loop-lo in
    let w = above-id (take 32 c.args.id.now) c.args.list.now c.args.size (l.lo + (l.hi - l.lo) / 2) c.requires.2 (omega arith) (ltb-true _ _ (rw (← c.comes_before.ensures) c.if-comes_before.true)) in
    (omega arith, l.invariant.1, l.invariant.2)

pub loop-lo-preserved : goal.loop-lo-preserved
loop-lo-preserved c =
    let l = c.loop-lo in
    let w = not-above-id (take 32 c.args.id.now) c.args.list.now c.args.size (l.lo + (l.hi - l.lo) / 2) c.requires.2 (omega arith) (ltb-false _ _ (rw (← c.comes_before.ensures) c.if-comes_before.false)) in
    (l.invariant.0, w, omega arith)
