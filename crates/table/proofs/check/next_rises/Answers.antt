-- `table::check::next_rises` meets its contract.
use native.Mathlib.Omega.{arith}
use Prim.Native.Nat.{◌+◌, ◌-◌, ◌^◌, ◌<◌}
use mathlib.Core.Path.{refl, sym, ◌∙◌}
use lib.ListN.{get_or}
use borrow.Author.Tests.{lt-ltb, ne_eqb}
use Rattle.message.proofs.Order.{Small}
use Rattle.table.specs.Code.{lent}
use Rattle.table.specs.Table.{Table}
use Rattle.table.proofs.Checks.{rises_never, rises_less, rises-more, rises-same}
use Rattle.table.proofs.check.next_rises.Goals as goal

pub returns-then-next : goal.returns-then-next
returns-then-next c = sym (rises_never (lent c.args.times.now c.args.ids.now) c.args.i (omega arith))

pub returns-then-before-next : goal.returns-then-before-next
returns-then-before-next c =
    let table : Table = lent c.args.times.now c.args.ids.now in
    let small-ids : Small table.ids = λ k. omega (arith, c.type_inv.ids k) in
    let low : get_or table.times (c.args.i + 1) 0 < 2 ^ 64 - 1 = omega (arith, c.type_inv.times (c.args.i + 1), c.if-next.false) in
    rw (rises_less table c.args.i low small-ids (omega arith), lt-ltb _ _ c.if-before-next.true) refl

pub returns-then-before-next-2 : goal.returns-then-before-next-2
returns-then-before-next-2 c =
    let table : Table = lent c.args.times.now c.args.ids.now in
    let low : get_or table.times (c.args.i + 1) 0 < 2 ^ 64 - 1 = omega (arith, c.type_inv.times (c.args.i + 1), c.if-next.false) in
    c.id_below.ensures ∙ sym (rises-same table c.args.i low (omega arith))

pub returns-else-before-next-2 : goal.returns-else-before-next-2
returns-else-before-next-2 c =
    let table : Table = lent c.args.times.now c.args.ids.now in
    let small-ids : Small table.ids = λ k. omega (arith, c.type_inv.ids k) in
    let low : get_or table.times (c.args.i + 1) 0 < 2 ^ 64 - 1 = omega (arith, c.type_inv.times (c.args.i + 1), c.if-next.false) in
    rw (rises-more table c.args.i low small-ids (omega arith), ne_eqb _ _ c.if-before-next-2.false) refl
