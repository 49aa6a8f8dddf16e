use Prim.Native.Nat.{◌-◌, ◌≤◌}
use lib.ListN.{take}
use Rattle.message.specs.Code.{ids_in}
use Rattle.sortedids.specs.Rank.{below}
use Rattle.sortedids.proofs.place.place_between.Given as goal

abbrev pub invariant-loop-lo : goal.invariant-loop-lo
invariant-loop-lo l =
    (l.lo ≤ below (take 32 l.id) (ids_in l.size l.list)) × (below (take 32 l.id) (ids_in l.size l.list) ≤ l.hi) × (l.hi ≤ l.size)

abbrev pub decreases-loop-lo : goal.decreases-loop-lo
decreases-loop-lo l = l.hi - l.lo
