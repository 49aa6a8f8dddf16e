use Prim.Native.Nat.{◌-◌}
use mathlib.Core.List.{flatten}
use lib.ListN.{length}
use Rattle.message.specs.Bound.{start}
use Rattle.writer.specs.Stream.{before}
use Rattle.writer.specs.Handover.{writes, buffer_of}
use Rattle.reader.specs.Private.{ranges_at}
use Rattle.table.specs.Code.{lent}
use Rattle.table.specs.Table.{items}
use Rattle.cutting.specs.Code.{cut_of}
use Rattle.ends.specs.Calls.{each_range}
use Rattle.ends.specs.Responder.{treat}
use Rattle.walk.specs.Walking.{starts}
use Rattle.exchange.specs.Given.{given}
use Rattle.exchange.proofs.Treating.{Treated}
use Rattle.exchange.proofs.treat.put_reply.Given as goal

abbrev pub invariant-loop-walk : goal.invariant-loop-walk
invariant-loop-walk l =
    Treated (writes l.pass) (treat (given l.listing) (cut_of l.cut) (items (lent l.times l.own))) (lent l.times l.own) l.m
    (flatten (each_range (treat (given l.listing) (cut_of l.cut) (items (lent l.times l.own))) start (ranges_at l.m starts.cursor)))
    (before l.initial.writer (buffer_of l.pass l.initial.out)) l.walk (before l.writer (buffer_of l.pass l.out))

abbrev pub decreases-loop-walk : goal.decreases-loop-walk
decreases-loop-walk l = length l.m - l.walk.cursor.at
