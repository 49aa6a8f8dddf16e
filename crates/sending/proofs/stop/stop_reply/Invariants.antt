use Prim.Native.Nat.{◌-◌}
use lib.ListN.{length}
use Rattle.table.specs.Code.{lent}
use Rattle.cutting.specs.Code.{cut_of}
use Rattle.sending.proofs.Replies.{Going}
use Rattle.sending.proofs.stop.stop_reply.Given as goal

abbrev pub invariant-loop-walk : goal.invariant-loop-walk
invariant-loop-walk l = Going l.listing (cut_of l.cut) (lent l.times l.own) l.m l.size l.kept l.walk l.writer

abbrev pub decreases-loop-walk : goal.decreases-loop-walk
decreases-loop-walk l = length l.m - l.walk.cursor.at
