use Prim.Native.Nat.{ℕ, ◌≤◌, ◌<◌}
use lib.ListN.{get_or}
use Rattle.index.specs.Sorting.{bucket_of}
use Rattle.index.proofs.lookup.head.Given as goal

abbrev pub invariant-loop-i : goal.invariant-loop-i
invariant-loop-i l = (j : ℕ) → l.k ≤ j → j < l.i → bucket_of (get_or l.words j 0) l.low l.shift < l.b
