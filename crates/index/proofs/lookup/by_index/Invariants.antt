use Prim.Native.Nat.{ℕ, ◌<◌}
use mathlib.Core.Path.{◌≡◌}
use mathlib.Core.Bool.{cond}
use lib.ListN.{get_or}
use Rattle.std.proofs.Common.{min}
use Rattle.index.specs.Lookup.{listed}
use Rattle.index.proofs.lookup.by_index.Given as goal

abbrev pub invariant-loop-done : goal.invariant-loop-done
invariant-loop-done l = (i : ℕ) → i < l.n → get_or l.found i 0 ≡ cond (listed l.list (min l.done l.count) l.ids i) 1 0
