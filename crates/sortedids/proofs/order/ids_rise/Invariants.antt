use Prim.Native.Nat.{◌-◌}
use mathlib.Core.Path.{◌≡◌}
use mathlib.Core.List.{map}
use Rattle.message.specs.Bound.{big_endian}
use Rattle.message.specs.Code.{ids_in}
use Rattle.table.specs.Lists.{rising}
use Rattle.sortedids.proofs.Rising.{rise_from}
use Rattle.sortedids.proofs.order.ids_rise.Given as goal

abbrev pub invariant-loop-i : goal.invariant-loop-i
invariant-loop-i l = rising (map (big_endian 32) (ids_in l.count l.list)) ≡ rise_from l.list l.count (l.i - 1)
