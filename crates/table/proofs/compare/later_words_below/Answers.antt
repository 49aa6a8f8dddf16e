-- `table::compare::later_words_below` meets its contract. The invariant: the words before word i are equal, and the bytes from it on decide.
use native.Mathlib.Omega.{arith}
use Prim.Native.Nat.{◌+◌, ◌*◌}
use mathlib.Core.Path.{◌≡◌, sym, ◌∙◌}
use Rattle.message.proofs.Order.{Small}
use Rattle.table.proofs.Words.{word_differs, word_same, no_word}
use Rattle.table.proofs.compare.later_words_below.Goals as goal

pub loop-i-init : goal.loop-i-init
loop-i-init c =
    let small-a : Small c.args.a.now = λ k. omega (arith, c.type_inv.a k) in
    let small_b : Small c.args.b.now = λ k. omega (arith, c.type_inv.b k) in
    word_same _ _ 0 small-a small_b (omega arith) c.requires.2

pub returns-then-x-y : goal.returns-then-x-y
returns-then-x-y c =
    let small-a : Small c.args.a.now = λ k. omega (arith, c.type_inv.a k) in
    let small_b : Small c.args.b.now = λ k. omega (arith, c.type_inv.b k) in
    rw (c.word-x.ensures, c.word-y.ensures)
    (word_differs _ _ (c.loop-i.i * 8) small-a small_b (omega arith) (rw (← c.word-x.ensures, ← c.word-y.ensures) c.if-x-y.true) ∙ sym c.loop-i.invariant)

pub loop-i-preserved : goal.loop-i-preserved
loop-i-preserved c =
    let small-a : Small c.args.a.now = λ k. omega (arith, c.type_inv.a k) in
    let small_b : Small c.args.b.now = λ k. omega (arith, c.type_inv.b k) in
    let next : (c.loop-i.i + 1) * 8 ≡ c.loop-i.i * 8 + 8 = omega arith in
    rw next (c.loop-i.invariant ∙ word_same _ _ (c.loop-i.i * 8) small-a small_b (omega arith) (sym c.word-x.ensures ∙ c.if-x-y.false ∙ c.word-y.ensures))

pub returns : goal.returns
returns c = sym (c.loop-i.invariant ∙ no_word _ _ (c.loop-i.i * 8) (omega arith))
