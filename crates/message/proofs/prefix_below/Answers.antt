-- `message::prefix_below` meets its contract. The invariant: the first i bytes are equal, and those behind them decide.
use Rattle.std.proofs.Common.{arith, sym, ◌∙◌, ◌≡◌, get_or}
use Rattle.message.proofs.Order.{Small, differ_here, same_here, none_left}
use Rattle.message.proofs.prefix_below.Goals as goal

pub returns-then-x-y : goal.returns-then-x-y
returns-then-x-y c =
    let l = c.loop-i in
    let a = c.args in
    let x : c.unwrap_or-x.result ≡ get_or a.p.now l.i 0 = c.unwrap_or-x.ensures ∙ rw c.copied.ensures (c.get.ensures.lookup.4 (omega arith) 0) in
    let y : c.unwrap_or-y.result ≡ get_or a.q.now l.i 0 = c.unwrap_or-y.ensures ∙ rw c.copied-in-loop-i.ensures (c.get-in-loop-i.ensures.lookup.4 (omega arith) 0) in
    let sp : Small a.p.now = λ k. omega (arith, c.type_inv.p k) in
    let sq : Small a.q.now = λ k. omega (arith, c.type_inv.q k) in
    rw (x, y) (differ_here a.p.now a.q.now l.i sp sq c.loop-i-test.true (λ e. c.if-x-y.true (x ∙ (e ∙ sym y)))) ∙ sym l.invariant

pub loop-i-preserved : goal.loop-i-preserved
loop-i-preserved c =
    let l = c.loop-i in
    let a = c.args in
    let x : c.unwrap_or-x.result ≡ get_or a.p.now l.i 0 = c.unwrap_or-x.ensures ∙ rw c.copied.ensures (c.get.ensures.lookup.4 (omega arith) 0) in
    let y : c.unwrap_or-y.result ≡ get_or a.q.now l.i 0 = c.unwrap_or-y.ensures ∙ rw c.copied-in-loop-i.ensures (c.get-in-loop-i.ensures.lookup.4 (omega arith) 0) in
    let sp : Small a.p.now = λ k. omega (arith, c.type_inv.p k) in
    let sq : Small a.q.now = λ k. omega (arith, c.type_inv.q k) in
    l.invariant
    ∙ same_here a.p.now a.q.now l.i sp sq c.loop-i-test.true (omega (arith, x, y, c.if-x-y.false)) (omega (arith, x, y, c.if-x-y.false))

pub returns : goal.returns
returns c =
    let l = c.loop-i in
    let a = c.args in
    sym (l.invariant ∙ none_left a.p.now a.q.now l.i c.loop-i-test.false)
