-- `table::check::check_table` meets its contract. The invariant: the items up to i - 1 pass check 2, so the table fails it if a later item does.
use native.Mathlib.Omega.{arith}
use mathlib.Core.Path.{◌≡◌, ◌∙◌}
use Prim.Native.Nat.{◌+◌, ◌-◌}
use Rattle.table.specs.Answer.{answer}
use Rattle.table.specs.Code.{lent}
use Rattle.table.specs.Table.{Table}
use Rattle.table.proofs.Items.{right_size}
use Rattle.table.proofs.Checks.{order-refused, checked, next_fails, next-holds, last-item}
use Rattle.table.proofs.check.check_table.Goals as goal

pub next_rises-requires : goal.next_rises-requires
next_rises-requires c =
    let table : Table = lent c.args.times.now c.args.ids.now in
    (omega arith, (right_size table c.in_ok-check_start.ensures.0).0)

pub returns-then-not-next_rises : goal.returns-then-not-next_rises
returns-then-not-next_rises c =
    let table : Table = lent c.args.times.now c.args.ids.now in
    order-refused table (answer tt) c.in_ok-check_start.ensures.0 (c.loop-i.invariant ∙ next_fails table (c.loop-i.i - 1) (omega arith) (rw (← c.next_rises.ensures) c.if-not-next_rises.true))

pub loop-i-preserved : goal.loop-i-preserved
loop-i-preserved c =
    let table : Table = lent c.args.times.now c.args.ids.now in
    let e : c.loop-i.i + 1 - 1 ≡ c.loop-i.i - 1 + 1 = omega arith in
    rw e (c.loop-i.invariant ∙ next-holds table (c.loop-i.i - 1) (omega arith) (rw (← c.next_rises.ensures) c.if-not-next_rises.false))

pub returns : goal.returns
returns c =
    let table : Table = lent c.args.times.now c.args.ids.now in
    checked table (answer tt) c.in_ok-check_start.ensures.0 (c.loop-i.invariant ∙ last-item table (c.loop-i.i - 1) (omega arith))
