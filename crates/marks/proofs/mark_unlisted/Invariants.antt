use Prim.Native.Nat.{◌+◌, ◌-◌, ◌≤◌}
use Rattle.message.specs.Code.{ids_in}
use Rattle.index.proofs.Setting.{SetTo}
use Rattle.marks.proofs.Marking.{missing}
use Rattle.marks.proofs.mark_unlisted.Given as goal

abbrev pub invariant-loop-j : goal.invariant-loop-j
invariant-loop-j g l = record {
  from : l.lo ≤ l.j;
  upto : l.j ≤ l.lo + (l.hi - l.lo);
  done : SetTo (missing l.own (ids_in l.count l.list)) l.lo l.j l.initial.marks l.marks;
}

abbrev pub decreases-loop-j : goal.decreases-loop-j
decreases-loop-j g l = l.hi - l.j
