use Prim.Native.Nat.{◌-◌}
use mathlib.Core.Path.{◌≡◌}
use lib.ListN.{length}
use Rattle.reader.specs.Private.{ranges_at}
use Rattle.table.specs.Code.{lent}
use Rattle.walk.specs.Walking.{starts, Walking}
use Rattle.judge.specs.Judge.{every_range}
use Rattle.judging.specs.Private.{truth}
use Rattle.judging.proofs.Judging.{pass_from}
use Rattle.judging.proofs.lists.reply_with.Given as goal

abbrev pub invariant-loop-walk : goal.invariant-loop-walk
invariant-loop-walk l =
    Walking (lent l.times l.own) l.reply l.walk × (every_range (truth (lent l.times l.own)) (ranges_at l.reply starts.cursor) ≡ pass_from (truth (lent l.times l.own)) l.reply l.walk)
    × (length l.words ≡ length l.initial.words) × (length l.pos ≡ length l.initial.pos) × (length l.found ≡ length l.initial.found)

abbrev pub decreases-loop-walk : goal.decreases-loop-walk
decreases-loop-walk l = length l.reply - l.walk.cursor.at
