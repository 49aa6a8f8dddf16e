use Prim.Native.Nat.{◌-◌, ◌≤◌}
use Rattle.message.specs.Code.{ids_in}
use Rattle.message.specs.WellFormed.{Bytes}
use Rattle.removal.proofs.Removing.{TakingOut}
use Rattle.removal.proofs.take_out_blocks.Given as goal

abbrev pub invariant-loop-lo : goal.invariant-loop-lo
invariant-loop-lo l = record {
  few : l.lo ≤ l.size;
  small : Bytes l.initial.list;
  passed : TakingOut (ids_in l.m l.ids) l.initial.list l.list l.kept l.lo;
}

abbrev pub decreases-loop-lo : goal.decreases-loop-lo
decreases-loop-lo l = l.size - l.lo
