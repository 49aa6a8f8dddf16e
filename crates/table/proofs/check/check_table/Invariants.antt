use mathlib.Core.Path.{◌≡◌}
use Prim.Native.Nat.{◌-◌}
use Rattle.table.specs.Code.{lent}
use Rattle.table.specs.Table.{not_rising}
use Rattle.table.specs.Private.{later_fault}
use Rattle.table.proofs.check.check_table.Given as goal

abbrev pub invariant-loop-i : goal.invariant-loop-i
invariant-loop-i l = not_rising (lent l.times l.ids) ≡ later_fault (lent l.times l.ids) (l.i - 1)
