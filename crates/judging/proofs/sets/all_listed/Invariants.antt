use Prim.Native.Nat.{◌-◌, ◌≤◌}
use mathlib.Core.Path.{◌≡◌}
use lib.ListN.{length}
use Rattle.judging.proofs.Listing.{ListedTo}
use Rattle.judging.proofs.sets.all_listed.Given as goal

abbrev pub invariant-loop-i : goal.invariant-loop-i
invariant-loop-i l =
    (l.i ≤ l.n) × (length l.words ≡ length l.initial.words) × (length l.pos ≡ length l.initial.pos) × (length l.found ≡ length l.initial.found) × ListedTo l.list l.count l.ids l.i

abbrev pub decreases-loop-i : goal.decreases-loop-i
decreases-loop-i l = l.n - l.i
