use Prim.Native.Nat.{◌-◌}
use lib.ListN.{length}
use Rattle.table.specs.Code.{lent}
use Rattle.walk.specs.Walking.{Walking}
use Rattle.window.specs.Windows.{limits, Inside, Placed}
use Rattle.window.proofs.ceiling.smallest_listed.Given as goal

abbrev pub invariant-loop-walk : goal.invariant-loop-walk
invariant-loop-walk l = record {
  walking : Walking (lent l.times l.own) l.m l.walk;
  placed : Placed l.m l.words l.pos l.n;
  inside : Inside (limits l.interval l.m) l.m l.pos l.n;
}

abbrev pub decreases-loop-walk : goal.decreases-loop-walk
decreases-loop-walk l = length l.m - l.walk.cursor.at
