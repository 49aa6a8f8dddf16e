-- `sortedids::place::comes_before` meets its contract.
use Prim.Native.Nat.{◌*◌}
use mathlib.Core.Path.{sym, ◌∙◌}
use native.Mathlib.Omega.{arith}
use borrow.Author.Tests.{lt-ltb, ne_eqb}
use Rattle.message.proofs.Order.{Small}
use Rattle.sortedids.proofs.Places.{compared-id, word_before, word_behind}
use Rattle.sortedids.proofs.place.comes_before.Goals as goal

pub returns-then-other-first : goal.returns-then-other-first
returns-then-other-first c =
    let small-list : Small c.args.list.now = λ k. omega (arith, c.type_inv.list k) in
    let small-id : Small c.args.id.now = λ k. omega (arith, c.type_inv.id k) in
    let a = c.args in
    lt-ltb _ _ c.if-other-first.true
    ∙ sym (word_before a.list.now a.id.now (a.i * 32) (small-list) (small-id) (rw (← c.requires.2, ← c.word-other.ensures) c.if-other-first.true))

pub returns-then-other-first-2 : goal.returns-then-other-first-2
returns-then-other-first-2 c =
    let a = c.args in
    compared-id a.list.now a.id.now (a.i * 32) c.id_below.result c.id_below.ensures

pub returns-else-other-first-2 : goal.returns-else-other-first-2
returns-else-other-first-2 c =
    let small-list : Small c.args.list.now = λ k. omega (arith, c.type_inv.list k) in
    let small-id : Small c.args.id.now = λ k. omega (arith, c.type_inv.id k) in
    let a = c.args in
    ne_eqb _ _ c.if-other-first-2.false
    ∙ sym (word_behind a.list.now a.id.now (a.i * 32) (small-list) (small-id) (rw (← c.requires.2, ← c.word-other.ensures) (omega (arith, c.if-other-first.false, c.if-other-first-2.false))))
