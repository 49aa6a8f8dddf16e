-- `removal::hints::Hints::lower_end` meets its contract.
use Prim.Native.Nat.{◌-◌}
use native.Mathlib.Omega.{arith}
use lib.ListN.{take}
use borrow.Author.Tests.{ltb-true}
use Rattle.sortedids.proofs.Places.{above-id}
use Rattle.removal.proofs.hints.Hints.lower_end.Goals as goal

pub returns-then-comes_before : goal.returns-then-comes_before
returns-then-comes_before c =
    let a = c.args in
    let h = a.self.now in
    let w = above-id (take 32 a.id.now) h.list.now h.count (a.hint - 1) h.rises (omega arith) (ltb-true _ _ (rw (← c.comes_before.ensures) c.if-comes_before.true)) in
    omega arith
