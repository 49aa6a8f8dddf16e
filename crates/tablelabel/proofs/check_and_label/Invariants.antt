use Prim.Native.Nat.{◌*◌, ◌-◌}
use mathlib.Core.Path.{◌≡◌}
use lib.ListN.{take}
use Rattle.label.specs.Label.{label_of}
use Rattle.label.specs.Code.{label_in, whole_ids}
use Rattle.table.specs.Code.{lent}
use Rattle.table.specs.Table.{not_rising}
use Rattle.table.specs.Private.{later_fault}
use Rattle.tablelabel.proofs.check_and_label.Given as goal

abbrev pub invariant-loop-i : goal.invariant-loop-i
invariant-loop-i l = record {
  rises : not_rising (lent l.times l.ids) ≡ later_fault (lent l.times l.ids) (l.i - 1);
  summed : label_in l.label ≡ label_of (whole_ids (take (l.i * 32) l.ids));
}
