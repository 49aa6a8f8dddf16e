-- `message::below` meets its contract.
use Rattle.std.proofs.Common.{arith, sym, ◌∙◌, ◌<◌}
use Rattle.std.proofs.lemmas.Bool.{lt-ltb}
use borrow.Author.Tests.{ne_eqb}
use Rattle.message.proofs.Order.{key_less, key_more, key-same}
use Rattle.message.proofs.below.Goals as goal

pub returns-then-t-u : goal.returns-then-t-u
returns-then-t-u c =
    let a = c.args in
    lt-ltb a.t a.u c.if-t-u.true ∙ sym (key_less a.t a.u a.p.now a.q.now (λ k. omega (arith, c.type_inv.p k)) c.if-t-u.true)

pub returns-then-t-u-2 : goal.returns-then-t-u-2
returns-then-t-u-2 c =
    let a = c.args in
    c.prefix_below.ensures ∙ sym (key-same a.t a.u a.p.now a.q.now (omega arith))

pub returns-else-t-u-2 : goal.returns-else-t-u-2
returns-else-t-u-2 c =
    let a = c.args in
    let later : a.u < a.t = omega (arith, c.if-t-u-2.false) in
    ne_eqb a.t a.u c.if-t-u-2.false ∙ sym (key_more a.t a.u a.p.now a.q.now (λ k. omega (arith, c.type_inv.q k)) later)
