use Prim.Native.Nat.{ℕ, ◌<◌}
use mathlib.Core.Path.{◌≡◌}
use lib.ListN.{get_or}
use Rattle.index.specs.Filter.{slot_of}
use Rattle.index.proofs.filter.make_filter.Given as goal

abbrev pub invariant-loop-word : goal.invariant-loop-word
invariant-loop-word l = (j : ℕ) → j < l.word-index → get_or l.room (slot_of (get_or l.words j 0)) 0 ≡ 1
