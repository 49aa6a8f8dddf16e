-- `removal::hints::Hints::upper_end` meets its contract.
use native.Mathlib.Omega.{arith}
use lib.ListN.{take}
use borrow.Author.Tests.{ltb-false}
use Rattle.message.specs.Code.{ids_in}
use Rattle.message.proofs.Forms.{ids-count}
use Rattle.sortedids.proofs.Places.{place-fits, not-above-id}
use Rattle.removal.proofs.hints.Hints.upper_end.Goals as goal

pub returns-then-not-comes_before : goal.returns-then-not-comes_before
returns-then-not-comes_before c =
    let a = c.args in
    let h = a.self.now in
    (not-above-id (take 32 a.id.now) h.list.now h.count a.hint h.rises (omega arith) (ltb-false _ _ (rw (← c.comes_before.ensures) c.if-not-comes_before.true)), omega arith)

pub returns-else-hint-self : goal.returns-else-hint-self
returns-else-hint-self c =
    let h = c.args.self.now in
    (omega (arith, place-fits (take 32 c.args.id.now) (ids_in h.count h.list.now), ids-count h.count h.list.now), omega arith)
