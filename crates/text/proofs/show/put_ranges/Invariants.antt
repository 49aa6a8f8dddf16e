-- What is written and the lines of the ranges that are left are the whole text.
use Rattle.std.proofs.Common.{length, ◌-◌}
use Rattle.text.proofs.Showing.{Shows}
use Rattle.text.proofs.show.put_ranges.Given as goal

abbrev pub invariant-loop-cursor : goal.invariant-loop-cursor
invariant-loop-cursor l = Shows l.m l.initial.out l.out l.cursor l.n

abbrev pub decreases-loop-cursor : goal.decreases-loop-cursor
decreases-loop-cursor l = length l.m - l.cursor.at
