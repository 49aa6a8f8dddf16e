-- `window::select::comes_before` meets its contract.
use mathlib.Core.Path.{sym}
use native.Mathlib.Omega.{arith}
use borrow.Author.Tests.{lt-ltb, ne_eqb}
use Rattle.index.proofs.Wording.{words_less, words_more}
use Rattle.window.proofs.select.comes_before.Goals as goal

pub returns-then-v-w : goal.returns-then-v-w
returns-then-v-w c =
    let a = c.args in
    rw (lt-ltb a.v a.w c.if-v-w.true) (sym (words_less a.m.now (λ k. omega (arith, c.type_inv.m k)) a.p a.q (rw (← c.requires.2, ← c.requires.3) c.if-v-w.true)))

pub returns-else-v-w-2 : goal.returns-else-v-w-2
returns-else-v-w-2 c =
    let a = c.args in
    rw (ne_eqb a.v a.w c.if-v-w-2.false) (sym (words_more a.m.now (λ k. omega (arith, c.type_inv.m k)) a.p a.q (rw (← c.requires.2, ← c.requires.3) (omega (arith, c.if-v-w-2.false)))))
