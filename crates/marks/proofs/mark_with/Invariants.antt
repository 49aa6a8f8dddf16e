use Prim.Native.Nat.{◌-◌}
use lib.ListN.{length}
use Rattle.table.specs.Code.{lent}
use Rattle.marks.proofs.Marking.{Marked}
use Rattle.marks.proofs.mark_with.Given as goal

abbrev pub invariant-loop-walk : goal.invariant-loop-walk
invariant-loop-walk g l = Marked (lent l.times l.own) l.m l.initial.marks l.walk l.marks

abbrev pub decreases-loop-walk : goal.decreases-loop-walk
decreases-loop-walk g l = length l.m - l.walk.cursor.at
