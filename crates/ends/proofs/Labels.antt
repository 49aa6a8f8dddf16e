-- Check 18: two labels are compared, and what that tells.
use mathlib.Core.Path.{◌≡◌}
use mathlib.Core.Bool.{true, false}
use lib.Dec.{eqb}
use borrow.Author.Tests.{eqb-true, not-false}
use Rattle.label.specs.Label.{Label, same_label}
use Rattle.table.specs.Table.{Table}
use Rattle.table.proofs.Tests.{and_true}
use Rattle.ends.specs.Opener.{Session, table_label, other_label}

same_is : (l m : Label) → same_label l m ≡ true → l ≡ m
unfolding same_label
same_is l m e =
    let w = and_true (eqb l.sum m.sum) (eqb l.count m.count) e in
    let sums = eqb-true l.sum m.sum w.0 in
    let counts = eqb-true l.count m.count w.1 in
    λ i. record { sum = sums i; count = counts i }

-- 18 does not meet a session: it has the table's label
pub not-other : (T : Table) (s : Session) → other_label T s ≡ false → s.label ≡ table_label T
unfolding other_label
not-other T s e = same_is s.label (table_label T) (not-false _ e)
