use Prim.Native.Nat.{◌-◌, ◌≤◌}
use lib.ListN.{length}
use Rattle.message.specs.Bound.{finite}
use Rattle.table.specs.Code.{lent}
use Rattle.table.specs.Table.{items}
use Rattle.table.specs.Private.{place_of}
use Rattle.table.proofs.search.first_at_or_above.Given as goal

abbrev pub invariant-loop-lo : goal.invariant-loop-lo
invariant-loop-lo l =
    (l.lo ≤ place_of (finite l.time l.prefix) (items (lent l.times l.ids))) × (place_of (finite l.time l.prefix) (items (lent l.times l.ids)) ≤ l.hi) × (l.hi ≤ length l.times)

abbrev pub decreases-loop-lo : goal.decreases-loop-lo
decreases-loop-lo l = l.hi - l.lo
