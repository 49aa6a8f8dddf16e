-- `merging::common::some_common` meets its contract. The invariant: there is a common item just if there is one from places i and j on.
use mathlib.Core.Path.{sym, ◌∙◌}
use native.Mathlib.Omega.{arith}
use Rattle.message.proofs.Order.{small_bytes}
use Rattle.table.specs.Code.{lent}
use Rattle.table.proofs.Items.{right_size}
use Rattle.merging.proofs.Walking.{table-ends, batch-ends, ours-lower, batch-lower, both-here}
use Rattle.merging.proofs.common.some_common.Goals as goal

pub item_below-requires : goal.item_below-requires
item_below-requires c =
    let a = c.args in
    let r = right_size (lent a.times.now a.ids.now) c.requires.0.0 in
    let q = right_size (lent a.fresh.now a.freshids.now) c.requires.1.0 in
    (omega arith, omega arith, omega arith, omega arith)

pub loop-i-preserved-then-item_below : goal.loop-i-preserved-then-item_below
loop-i-preserved-then-item_below c =
    let a = c.args in
    let l = c.loop-i in
    l.invariant ∙ ours-lower (lent a.times.now a.ids.now) (lent a.fresh.now a.freshids.now) c.requires.0 c.requires.1 l.i l.j (omega arith) (omega arith) _ c.item_below.ensures c.if-item_below.true

pub item_below-requires-else-item_below : goal.item_below-requires-else-item_below
item_below-requires-else-item_below c =
    let a = c.args in
    let r = right_size (lent a.times.now a.ids.now) c.requires.0.0 in
    let q = right_size (lent a.fresh.now a.freshids.now) c.requires.1.0 in
    (omega arith, omega arith, omega arith, omega arith)

pub loop-i-preserved : goal.loop-i-preserved
loop-i-preserved c =
    let a = c.args in
    let l = c.loop-i in
    l.invariant ∙ batch-lower (lent a.times.now a.ids.now) (lent a.fresh.now a.freshids.now) c.requires.0 c.requires.1 l.i l.j (omega arith) (omega arith) _ c.item_below-else-item_below.ensures c.if-item_below-2.true

-- neither item is below the other
pub returns-else-item_below-2 : goal.returns-else-item_below-2
returns-else-item_below-2 c =
    let a = c.args in
    let l = c.loop-i in
    sym (l.invariant
    ∙ both-here (lent a.times.now a.ids.now) (lent a.fresh.now a.freshids.now) c.requires.0 c.requires.1 l.i l.j (omega arith) (omega arith)
    _ _ c.item_below.ensures c.if-item_below.false c.item_below-else-item_below.ensures c.if-item_below-2.false
    (small_bytes a.ids.now (λ k. omega (arith, c.type_inv.ids k))) (small_bytes a.freshids.now (λ k. omega (arith, c.type_inv.freshids k))))

-- the batch is at its end
pub returns-else-j-fresh : goal.returns-else-j-fresh
returns-else-j-fresh c =
    let a = c.args in
    let l = c.loop-i in
    sym (l.invariant ∙ batch-ends (lent a.times.now a.ids.now) (lent a.fresh.now a.freshids.now) l.i l.j c.if-j-fresh.false)

-- the table is at its end
pub returns-after-loop-i : goal.returns-after-loop-i
returns-after-loop-i c =
    let a = c.args in
    let l = c.loop-i in
    sym (l.invariant ∙ table-ends (lent a.times.now a.ids.now) (lent a.fresh.now a.freshids.now) l.i l.j (omega arith))
