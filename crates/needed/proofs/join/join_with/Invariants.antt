use Prim.Native.Nat.{◌-◌}
use mathlib.Core.List.{foldr}
use lib.ListN.{length}
use Rattle.message.specs.Code.{ids_in}
use Rattle.message.proofs.Order.{Small}
use Rattle.table.specs.Code.{lent}
use Rattle.ends.specs.Opener.{insert}
use Rattle.walk.specs.Walking.{starts, Walking}
use Rattle.walk.specs.Adding.{added_from}
use Rattle.needed.proofs.Batching.{Adding}
use Rattle.needed.proofs.join.join_with.Given as goal

abbrev pub invariant-loop-walk : goal.invariant-loop-walk
invariant-loop-walk l = record {
  walking : Walking (lent l.times l.own) l.m l.walk;
  bytes : Small l.needed;
  adding : Adding l.m l.initial.needed l.initial.batch (foldr insert (ids_in l.size l.initial.needed) (added_from (lent l.times l.own) l.m starts)) (added_from (lent l.times l.own) l.m l.walk) l.needed l.words l.pos l.batch;
}

abbrev pub decreases-loop-walk : goal.decreases-loop-walk
decreases-loop-walk l = length l.m - l.walk.cursor.at
