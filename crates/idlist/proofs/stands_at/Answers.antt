-- `idlist::stands_at` meets its contract.
use Prim.Native.Nat.{ℕ, ◌+◌, ◌-◌}
use mathlib.Core.Path.{◌≡◌, sym, ap, ◌∙◌}
use native.Mathlib.Omega.{arith}
use lib.Dec.{eqb}
use lib.ListN.{take, drop, length-drop}
use Rattle.message.specs.Bound.{big_endian}
use Rattle.message.proofs.Order.{Small, small-drop}
use Rattle.table.proofs.Words.{big_endian-take}
use borrow.Author.Tests.{ne_eqb}
use Rattle.idlist.proofs.Searching.{other_word, same-by-number}
use Rattle.idlist.proofs.stands_at.Goals as goal

pub returns-then-word-first : goal.returns-then-word-first
returns-then-word-first c =
    let a = c.args in
    let list : Small a.list.now = λ k. omega (arith, c.type_inv.list k) in
    let id : Small a.id.now = λ k. omega (arith, c.type_inv.id k) in
    let e : a.at + 32 - a.at ≡ 32 = omega arith in
    c.same_id.ensures
    ∙ ap (λ (n : ℕ). eqb (big_endian 32 a.id.now) (big_endian 32 (take n (drop a.at a.list.now)))) e
    ∙ ap (λ (n : ℕ). eqb (big_endian 32 a.id.now) n) (big_endian-take 32 (drop a.at a.list.now))
    ∙ sym (same-by-number a.id.now (drop a.at a.list.now) id (small-drop a.at a.list.now list) c.requires.1 (rw (length-drop a.at a.list.now) (omega arith)))

pub returns-else-word-first : goal.returns-else-word-first
returns-else-word-first c =
    let a = c.args in
    let other : c.word.result ≡ a.first → ⊥ = c.if-word-first.false in
    ne_eqb _ _ other ∙ sym (other_word a.id.now (drop a.at a.list.now) (λ e. other (c.word.ensures ∙ sym e ∙ sym c.requires.2)))
