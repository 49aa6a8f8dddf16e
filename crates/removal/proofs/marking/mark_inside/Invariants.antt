use Prim.Native.Nat.{◌-◌, ◌≤◌}
use Rattle.message.specs.Code.{ids_in}
use Rattle.removal.specs.Removing.{bits_in}
use Rattle.removal.proofs.Removing.{Found}
use Rattle.removal.proofs.marking.mark_inside.Given as goal

abbrev pub invariant-loop-j : goal.invariant-loop-j
invariant-loop-j l = record {
  few : l.j ≤ l.m;
  found : Found (ids_in l.hints.count l.hints.list.now) l.ids (bits_in l.marks) l.hints.count l.found l.j;
}

abbrev pub decreases-loop-j : goal.decreases-loop-j
decreases-loop-j l = l.m - l.j
