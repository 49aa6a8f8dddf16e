-- `marks::mark_range` meets its contract.
use Prim.Native.Nat.{◌+◌, ◌*◌, ◌≤◌}
use native.Mathlib.Omega.{arith}
use lib.ListN.{length, length-drop}
use Rattle.reader.proofs.Listing.{part-from}
use Rattle.table.specs.Code.{lent}
use Rattle.table.proofs.Items.{right_size}
use Rattle.cutting.specs.Private.{upper_of}
use Rattle.marks.proofs.Marking.{others-marks, ids-marks}
use Rattle.marks.proofs.mark_range.Goals as goal

pub mark_unlisted-requires : goal.mark_unlisted-requires
mark_unlisted-requires g c =
    let inside : c.in-Ids.at + c.in-Ids.count * 32 ≤ length c.args.m.now = rw c.in-Ids.is at c.requires.2 in
    let r = right_size (lent c.args.times.now c.args.own.now) c.requires.0.0 in
    let h = c.requires.1.1 in
    let m = c.args.m.now in
    let at = c.in-Ids.at in
    (omega arith, (omega arith, omega arith, rw (part-from m at, length-drop at m) (omega arith)))

pub returns-in-Ids : goal.returns-in-Ids
returns-in-Ids g c =
    let a = c.args in
    let e = c.mark_unlisted in
    λ x from to. ids-marks (lent a.times.now a.own.now) x (upper_of a.span) a.marks.now c.requires.3 c.requires.0 _ _ from to _ e.auto.marks
    a.payload a.m.now c.in-Ids.count c.in-Ids.at c.in-Ids.is e.ensures

pub returns-in_default : goal.returns-in_default
returns-in_default g c =
    let a = c.args in
    λ x from to. others-marks (lent a.times.now a.own.now) x (upper_of a.span) a.marks.now c.requires.3 a.payload a.m.now c.in_default.not-Ids
