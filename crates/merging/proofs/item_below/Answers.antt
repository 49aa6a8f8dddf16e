-- `merging::item_below` meets its contract: the times decide, and among equal times the ids.
use mathlib.Core.Path.{sym, ◌∙◌}
use native.Mathlib.Omega.{arith}
use borrow.Author.Tests.{lt-ltb, ne_eqb}
use Rattle.table.specs.Code.{lent}
use Rattle.table.proofs.Keys.{item_less, item-more, item_level}
use Rattle.merging.proofs.item_below.Goals as goal

pub returns-then-t-i : goal.returns-then-t-i
returns-then-t-i c =
    let a = c.args in
    lt-ltb _ _ c.if-t-i.true ∙ sym (item_less (lent a.t.now a.p.now) (lent a.u.now a.q.now) a.i a.j (λ k. omega (arith, c.type_inv.p k)) c.if-t-i.true)

pub returns-then-t-i-2 : goal.returns-then-t-i-2
returns-then-t-i-2 c =
    let a = c.args in
    c.id_below.ensures ∙ sym (item_level (lent a.t.now a.p.now) (lent a.u.now a.q.now) a.i a.j c.if-t-i-2.true)

pub returns-else-t-i-2 : goal.returns-else-t-i-2
returns-else-t-i-2 c =
    let a = c.args in
    ne_eqb _ _ c.if-t-i-2.false ∙ sym (item-more (lent a.t.now a.p.now) (lent a.u.now a.q.now) a.i a.j (λ k. omega (arith, c.type_inv.q k)) (omega (arith, c.if-t-i.false, c.if-t-i-2.false)))
