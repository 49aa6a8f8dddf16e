use Prim.Native.Nat.{ℕ, ◌+◌, ◌≤◌, ◌<◌}
use mathlib.Core.Path.{◌≡◌}
use lib.ListN.{get_or}
use Rattle.index.specs.Sorting.{bucket_of}
use Rattle.index.specs.Lookup.{Head}
use Rattle.index.proofs.lookup.direct.Given as goal

abbrev pub invariant-loop-b : goal.invariant-loop-b
invariant-loop-b l =
    (l.k ≤ l.n) × ((j : ℕ) → j < l.k → bucket_of (get_or l.words j 0) l.low l.shift < l.b) × ((c : ℕ) → c < l.b → Head l.words l.n l.low l.shift c (get_or l.pos (l.n + c) 0))
    × ((j : ℕ) → j < l.n → get_or l.pos j 0 ≡ get_or l.initial.pos j 0) × (get_or l.pos (l.n + l.n + 1) 0 ≡ l.shift)
