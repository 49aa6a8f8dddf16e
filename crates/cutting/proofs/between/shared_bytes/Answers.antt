-- `cutting::between::shared_bytes` meets its contract. The invariant: k bytes are shared so far, and the others are still to be counted.
use mathlib.Core.Path.{◌≡◌, sym, ◌∙◌}
use native.Mathlib.Nat.{zero-add}
use native.Mathlib.Omega.{arith}
use Rattle.cutting.proofs.Shortest.{count-more, count-ends, count_all}
use Rattle.cutting.proofs.between.shared_bytes.Goals as goal

pub loop-k-init : goal.loop-k-init
loop-k-init c = sym (zero-add _)

pub returns-then-p-k : goal.returns-then-p-k
returns-then-p-k c =
    let l = c.loop-k in
    count-ends c.args.p.now c.args.q.now 32 l.k (omega arith) (omega arith) l.invariant (omega arith) c.if-p-k.true

pub loop-k-preserved : goal.loop-k-preserved
loop-k-preserved c =
    let l = c.loop-k in
    count-more c.args.p.now c.args.q.now 32 l.k (omega arith) (omega arith) l.invariant (omega arith) c.if-p-k.false

pub returns : goal.returns
returns c =
    let l = c.loop-k in
    let all : l.k ≡ 32 = omega arith in
    sym all ∙ count_all c.args.p.now c.args.q.now 32 l.k (omega arith) (omega arith) l.invariant all
