use Prim.Native.Nat.{◌+◌, ◌-◌, ◌≤◌}
use lib.ListN.{length}
use Rattle.table.specs.Code.{lent}
use Rattle.walk.specs.Walking.{starts, Walking}
use Rattle.walk.specs.Adding.{added_from}
use Rattle.room.proofs.few_listed.Given as goal

abbrev pub invariant-loop-walk : goal.invariant-loop-walk
invariant-loop-walk l = record {
  walking : Walking (lent l.times l.own) l.m l.walk;
  fits : l.left ≤ l.room;
  few : length (added_from (lent l.times l.own) l.m starts) + l.left ≤ l.room + length (added_from (lent l.times l.own) l.m l.walk);
}

abbrev pub decreases-loop-walk : goal.decreases-loop-walk
decreases-loop-walk l = length l.m - l.walk.cursor.at
