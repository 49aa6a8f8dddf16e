use Prim.Native.Nat.{◌-◌}
use Rattle.message.specs.Code.{ids_in}
use Rattle.table.specs.Code.{lent}
use Rattle.walk.specs.Adding.{added_from}
use Rattle.walk.specs.Walking.{starts}
use Rattle.window.specs.Windows.{limits}
use Rattle.room.proofs.Windows.{interval}
use Rattle.room.proofs.Counting.{Counted}
use Rattle.room.proofs.count.count_between.Given as goal

abbrev pub invariant-loop-next : goal.invariant-loop-next
invariant-loop-next l = Counted l.m (added_from (lent l.times l.own) l.m starts) (ids_in l.size l.needed) (interval l.low l.last l.floor) l.more

abbrev pub decreases-loop-next : goal.decreases-loop-next
decreases-loop-next l = let f = limits (interval l.low l.last l.floor) l.m in f.to - f.from
