-- `window::select::gather_list` meets its contract. The invariant: the ids before the i-th that are wanted have been offered.
use native.Mathlib.Omega.{arith}
use Rattle.window.proofs.Selecting.{list-starts, list-ends}
use Rattle.window.proofs.select.gather_list.Invariants.{owns}
use Rattle.window.proofs.select.gather_list.Goals as goal

pub loop-i-init : goal.loop-i-init
loop-i-init c =
    let a = c.args in record {
      few = omega arith;
      placed = c.requires.6;
      offered = λ all later g. rw (list-starts (owns a.own.now a.span) a.m.now a.at a.count) at g;
    }

pub returns : goal.returns
returns c =
    let a = c.args in
    let l = c.loop-i in
    (l.invariant.placed, λ all later g. rw (list-ends (owns a.own.now a.span) a.m.now a.at a.count l.i (omega arith) later) at (l.invariant.offered all later g))
