use Prim.Native.Nat.{◌+◌, ◌-◌}
use mathlib.Core.Path.{◌≡◌}
use lib.ListN.{length}
use Rattle.table.specs.Table.{items}
use Rattle.table.specs.Code.{lent}
use Rattle.merging.proofs.Walking.{common, common_from}
use Rattle.merging.proofs.common.some_common.Given as goal

abbrev pub invariant-loop-i : goal.invariant-loop-i
invariant-loop-i l =
    common (items (lent l.times l.ids)) (items (lent l.fresh l.freshids)) ≡ common_from (lent l.times l.ids) (lent l.fresh l.freshids) l.i l.j

abbrev pub decreases-loop-i : goal.decreases-loop-i
decreases-loop-i l = length l.times + length l.fresh - (l.i + l.j)
