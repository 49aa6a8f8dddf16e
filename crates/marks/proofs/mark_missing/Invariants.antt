use Prim.Native.Nat.{◌+◌, ◌-◌}
use lib.Dec.{eqb}
use lib.ListN.{get_or}
use Rattle.index.proofs.Setting.{SetTo}
use Rattle.marks.proofs.mark_missing.Given as goal

abbrev pub invariant-loop-i : goal.invariant-loop-i
invariant-loop-i l = SetTo (λ k. eqb (get_or l.found (k - l.lo) 0) 0) l.lo (l.lo + l.i) l.initial.marks l.marks
