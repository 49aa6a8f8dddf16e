use Prim.Native.Nat.{◌≤◌}
use Rattle.window.proofs.spread.leading.Given as goal

abbrev pub invariant-loop-b : goal.invariant-loop-b
invariant-loop-b l = l.sum ≤ 11007
