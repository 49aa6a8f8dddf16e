use Prim.Native.Nat.{◌-◌, ◌≤◌}
use Rattle.room.proofs.Unowned.{Summing}
use Rattle.room.proofs.count_unowned.Given as goal

abbrev pub invariant-loop-i : goal.invariant-loop-i
invariant-loop-i l = record {
  inside : l.i ≤ l.count;
  few : l.sum ≤ l.i;
  summing : Summing l.own l.start l.owned l.m l.count l.at l.sum l.i;
}

abbrev pub decreases-loop-i : goal.decreases-loop-i
decreases-loop-i l = l.count - l.i
