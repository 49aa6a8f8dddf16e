use Prim.Native.Nat.{◌-◌}
use lib.ListN.{length}
use Rattle.table.specs.Code.{lent}
use Rattle.judging.proofs.Judging.{Judging}
use Rattle.judging.proofs.merge.query_answered.Given as goal

abbrev pub invariant-loop-walk : goal.invariant-loop-walk
invariant-loop-walk l = Judging (lent l.times l.own) l.query l.reply l.walk l.other

abbrev pub decreases-loop-walk : goal.decreases-loop-walk
decreases-loop-walk l = length l.query - l.walk.cursor.at
