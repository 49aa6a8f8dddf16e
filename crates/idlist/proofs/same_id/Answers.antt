-- `idlist::same_id` meets its contract. The invariant: the bytes behind the first k words decide which id is below the other.
use Prim.Native.Nat.{ℕ, ◌*◌, ◌+◌, ◌<◌}
use mathlib.Core.Path.{◌≡◌, refl, sym, ap, ◌∙◌}
use native.Mathlib.Omega.{arith}
use lib.Dec.{ltb}
use lib.ListN.{drop}
use borrow.Author.Tests.{ltb-true, ltb-false}
use Rattle.message.specs.Bound.{big_endian}
use Rattle.message.proofs.Exact.{by_test}
use Rattle.message.proofs.Order.{Small}
use Rattle.table.proofs.Words.{from, word_less, word_same, no_word}
use Rattle.idlist.proofs.Searching.{neither_below, below_other, above_other}
use Rattle.idlist.proofs.same_id.Goals as goal

pub loop-k-init : goal.loop-k-init
loop-k-init c = (refl, refl)

pub returns-then-word : goal.returns-then-word
returns-then-word c =
    let small-a : Small c.args.a.now = λ k. omega (arith, c.type_inv.a k) in
    let small_b : Small c.args.b.now = λ k. omega (arith, c.type_inv.b k) in
    let a = c.args.a.now in
    let b = c.args.b.now in
    let at : ℕ = 8 * c.loop-k.k in
    let x = c.word.ensures in
    let y = c.word-in-loop-k.ensures in
    by_test (ltb (big_endian 8 (drop at a)) (big_endian 8 (drop at b)))
    (λ e. below_other (big_endian 32 a) (big_endian 32 b) (c.loop-k.invariant.0 ∙ word_less a b at small-a small_b (omega arith) (ltb-true _ _ e)))
    (λ e.
    let l : big_endian 8 (drop at b) < big_endian 8 (drop at a) = omega (arith, ltb-false (big_endian 8 (drop at a)) (big_endian 8 (drop at b)) e, c.if-word.true) in
    above_other (big_endian 32 a) (big_endian 32 b) (c.loop-k.invariant.1 ∙ word_less b a at small_b small-a (omega arith) l))

pub loop-k-preserved : goal.loop-k-preserved
loop-k-preserved c =
    let small-a : Small c.args.a.now = λ k. omega (arith, c.type_inv.a k) in
    let small_b : Small c.args.b.now = λ k. omega (arith, c.type_inv.b k) in
    let a = c.args.a.now in
    let b = c.args.b.now in
    let at : ℕ = 8 * c.loop-k.k in
    let next : at + 8 ≡ 8 * (c.loop-k.k + 1) = omega arith in
    let e : big_endian 8 (drop at a) ≡ big_endian 8 (drop at b) = sym c.word.ensures ∙ c.if-word.false ∙ c.word-in-loop-k.ensures in (
      c.loop-k.invariant.0 ∙ word_same a b at small-a small_b (omega arith) e ∙ ap (λ (n : ℕ). ltb (from a n) (from b n)) next,
      c.loop-k.invariant.1 ∙ word_same b a at small_b small-a (omega arith) (sym e) ∙ ap (λ (n : ℕ). ltb (from b n) (from a n)) next,
    )

pub returns : goal.returns
returns c =
    let l = c.loop-k in
    let a = c.args in
    neither_below (big_endian 32 a.a.now) (big_endian 32 a.b.now) (l.invariant.0 ∙ no_word a.a.now a.b.now (8 * l.k) (omega arith)) (l.invariant.1 ∙ no_word a.b.now a.a.now (8 * l.k) (omega arith))
