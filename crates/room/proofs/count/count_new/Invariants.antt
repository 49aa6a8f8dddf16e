use Prim.Native.Nat.{◌+◌, ◌-◌, ◌*◌}
use mathlib.Core.Path.{◌≡◌}
use lib.ListN.{length}
use Rattle.message.specs.Code.{ids_in}
use Rattle.table.specs.Code.{lent}
use Rattle.walk.specs.Adding.{added_from}
use Rattle.walk.specs.Walking.{starts}
use Rattle.window.specs.Windows.{word_span}
use Rattle.room.specs.Counts.{list_below}
use Rattle.room.proofs.count.count_new.Given as goal

abbrev pub invariant-loop-words : goal.invariant-loop-words
invariant-loop-words l = record {
  words : length l.words ≡ 11008;
  pos : length l.pos ≡ 11008;
  keys : length l.keys ≡ 4096;
  places : length l.places ≡ 8200;
  found : length l.found ≡ 1024;
  ids : length l.ids ≡ 32768;
  picks : length l.picks ≡ 1024;
  counted : length (list_below (ids_in l.size l.needed) (added_from (lent l.times l.own) l.m starts) (l.low * word_span)) ≡ l.more + length (ids_in l.size l.needed);
}

abbrev pub decreases-loop-words : goal.decreases-loop-words
decreases-loop-words l = 18446744073709551616 - l.low
