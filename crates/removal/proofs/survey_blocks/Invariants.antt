use Prim.Native.Nat.{◌-◌, ◌≤◌}
use Rattle.message.specs.Code.{ids_in}
use Rattle.removal.proofs.Surveying.{Surveyed}
use Rattle.removal.proofs.survey_blocks.Given as goal

abbrev pub invariant-loop-lo : goal.invariant-loop-lo
invariant-loop-lo l =
    record { few : l.lo ≤ l.size; passed : Surveyed (ids_in l.m l.ids) l.list l.found l.left l.lo }

abbrev pub decreases-loop-lo : goal.decreases-loop-lo
decreases-loop-lo l = l.size - l.lo
