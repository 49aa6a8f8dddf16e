use Prim.Native.Nat.{◌-◌}
use lib.ListN.{length}
use Rattle.table.specs.Code.{lent}
use Rattle.walk.specs.Walking.{starts, Walking}
use Rattle.walk.specs.Adding.{added_from}
use Rattle.window.specs.Windows.{limits, Placed, Gathering}
use Rattle.window.proofs.select.gather.Given as goal

abbrev pub invariant-loop-walk : goal.invariant-loop-walk
invariant-loop-walk l = record {
  walking : Walking (lent l.times l.own) l.m l.walk;
  placed : Placed l.m l.words l.pos l.n;
  gathering : Gathering l.m (added_from (lent l.times l.own) l.m starts) (added_from (lent l.times l.own) l.m l.walk) (limits l.interval l.m) l.pos l.n;
}

abbrev pub decreases-loop-walk : goal.decreases-loop-walk
decreases-loop-walk l = length l.m - l.walk.cursor.at
