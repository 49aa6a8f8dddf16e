use Prim.Native.Nat.{◌-◌}
use lib.ListN.{length}
use Rattle.table.specs.Code.{lent}
use Rattle.walk.specs.Walking.{Walking}
use Rattle.window.proofs.spread.count_listed.Given as goal

abbrev pub invariant-loop-walk : goal.invariant-loop-walk
invariant-loop-walk l = Walking (lent l.times l.own) l.m l.walk

abbrev pub decreases-loop-walk : goal.decreases-loop-walk
decreases-loop-walk l = length l.m - l.walk.cursor.at
