use Prim.Native.Nat.{◌-◌}
use Rattle.message.specs.Code.{ids_in}
use Rattle.removal.proofs.Blocks.{Marking}
use Rattle.removal.proofs.marking.mark_all.Given as goal

abbrev pub invariant-loop-lo : goal.invariant-loop-lo
invariant-loop-lo l =
    Marking (ids_in l.m l.ids) l.list l.count l.marks l.found l.lo

abbrev pub decreases-loop-lo : goal.decreases-loop-lo
decreases-loop-lo l = l.count - l.lo
