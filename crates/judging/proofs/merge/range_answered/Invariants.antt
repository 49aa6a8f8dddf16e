use Prim.Native.Nat.{◌-◌}
use lib.ListN.{length}
use Rattle.table.specs.Code.{lent}
use Rattle.judging.specs.Private.{bound_at}
use Rattle.judging.proofs.Merging.{Merging}
use Rattle.judging.proofs.merge.range_answered.Given as goal

abbrev pub invariant-loop-walk : goal.invariant-loop-walk
invariant-loop-walk l =
    Merging (lent l.times l.own) l.reply l.asked (bound_at l.lower) (bound_at l.upper) l.initial.walk l.sofar l.walk

abbrev pub decreases-loop-walk : goal.decreases-loop-walk
decreases-loop-walk l = length l.reply - l.walk.cursor.at
