-- `marks::mark_with` meets its contract. The invariant: what the ranges that are left set on the marks is what all ranges set on the marks as they were.
use native.Mathlib.Omega.{arith}
use Rattle.table.specs.Code.{lent}
use Rattle.marks.proofs.Marking.{marked-starts, marked_more, marked-ends}
use Rattle.marks.proofs.mark_with.Goals as goal

pub loop-walk-init : goal.loop-walk-init
loop-walk-init g c = marked-starts (lent c.args.times.now c.args.own.now) _ _ _ c.start-walk.ensures c.requires.1 c.requires.2

pub loop-walk-preserved : goal.loop-walk-preserved
loop-walk-preserved g c =
    let t = c.step-step in
    let l = c.loop-walk in
    let r = c.mark_range in
    marked_more (lent c.args.times.now c.args.own.now) c.args.m.now _ l.walk l.marks l.invariant t.result t.ensures _ r.auto.marks (r.ensures _ t.ensures.from t.ensures.to)

pub returns : goal.returns
returns g c =
    let l = c.loop-walk in
    marked-ends (lent c.args.times.now c.args.own.now) c.args.m.now _ l.walk l.marks l.invariant (omega arith)
