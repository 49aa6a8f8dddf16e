use Prim.Native.Nat.{ℕ, ◌≤◌, ◌<◌}
use mathlib.Core.Path.{◌≡◌}
use mathlib.Core.Bool.{cond}
use lib.ListN.{get_or}
use Rattle.index.specs.Lookup.{listed}
use Rattle.index.proofs.lookup.one_by_one.Given as goal

abbrev pub invariant-loop-i : goal.invariant-loop-i
invariant-loop-i l = (l.next ≤ l.count) × ((k : ℕ) → k < l.i → get_or l.found k 0 ≡ cond (listed l.list l.count l.ids k) 1 0)
