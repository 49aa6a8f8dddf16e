use Prim.Native.Nat.{◌+◌, ◌-◌, ◌<◌}
use mathlib.Core.Path.{◌≡◌}
use lib.ListN.{length, drop}
use Rattle.message.specs.Message.{read_ranges, read_message}
use Rattle.reader.specs.Answers.{counted}
use Rattle.reader.specs.Private.{lower_at}
use Rattle.reader.proofs.ReadingMessages.{more}
use Rattle.reader.proofs.check.check_message.Given as goal

abbrev pub invariant-loop-cursor : goal.invariant-loop-cursor
invariant-loop-cursor l =
    (l.count + (length l.m - l.cursor.at) < length l.m) × (counted (read_message l.m) ≡ more l.count (read_ranges (length l.m) (lower_at l.cursor) (drop l.cursor.at l.m)))

abbrev pub decreases-loop-cursor : goal.decreases-loop-cursor
decreases-loop-cursor l = length l.m - l.cursor.at
