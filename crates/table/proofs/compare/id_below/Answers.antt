-- `table::compare::id_below` meets its contract.
use native.Mathlib.Omega.{arith}
use mathlib.Core.Path.{sym, ◌∙◌}
use Rattle.message.proofs.Order.{Small}
use Rattle.table.proofs.Words.{word_less, word_more}
use borrow.Author.Tests.{lt-ltb, ne_eqb}
use Rattle.table.proofs.compare.id_below.Goals as goal

pub returns-then-x-y : goal.returns-then-x-y
returns-then-x-y c =
    let small-a : Small c.args.a.now = λ k. omega (arith, c.type_inv.a k) in
    let small_b : Small c.args.b.now = λ k. omega (arith, c.type_inv.b k) in
    lt-ltb _ _ c.if-x-y.true ∙ sym (word_less _ _ 0 small-a small_b (omega arith) (rw (← c.word-x.ensures, ← c.word-y.ensures) c.if-x-y.true))

pub returns-else-x-y-2 : goal.returns-else-x-y-2
returns-else-x-y-2 c =
    let small-a : Small c.args.a.now = λ k. omega (arith, c.type_inv.a k) in
    let small_b : Small c.args.b.now = λ k. omega (arith, c.type_inv.b k) in
    ne_eqb _ _ c.if-x-y-2.false ∙ sym (word_more _ _ 0 small-a small_b (omega arith) (rw (← c.word-x.ensures, ← c.word-y.ensures) (omega arith)))
