-- `judging::lists::of_table` meets its contract.
use Prim.Native.Nat.{◌+◌, ◌*◌, ◌≤◌}
use mathlib.Core.Path.{refl, ◌∙◌}
use native.Mathlib.Omega.{arith}
use lib.ListN.{length, length-drop}
use borrow.Author.Rules.{rules}
use Rattle.reader.proofs.Listing.{part-from}
use Rattle.table.specs.Code.{lent}
use Rattle.table.proofs.Items.{right_size}
use Rattle.judge.specs.Judge.{of_table}
use Rattle.judging.proofs.Listing.{list_of_table, print_of_table}
use Rattle.judging.proofs.lists.of_table.Goals as goal

pub overflow_mul-first : goal.overflow_mul-first
overflow_mul-first c = omega (arith, right_size (lent c.args.times.now c.args.own.now) c.requires.0.0)

pub slice_bounds-same_ids-count-in-Ids : goal.slice_bounds-same_ids-count-in-Ids
slice_bounds-same_ids-count-in-Ids c = omega (arith, right_size (lent c.args.times.now c.args.own.now) c.requires.0.0)

pub slice_bounds-same_ids-start-in-Ids : goal.slice_bounds-same_ids-start-in-Ids
slice_bounds-same_ids-start-in-Ids c =
    let r = right_size (lent c.args.times.now c.args.own.now) c.requires.0.0 in
    search rules

pub same_ids-requires : goal.same_ids-requires
same_ids-requires c =
    let r = right_size (lent c.args.times.now c.args.own.now) c.requires.0.0 in
    let inside : c.in-Ids.at + c.in-Ids.count * 32 ≤ length c.args.m.now = rw c.in-Ids.is at c.requires.2 in
    let m = c.args.m.now in
    let at = c.in-Ids.at in
    let lo = c.args.span.lo * 32 in
    (rw (part-from m at, length-drop at m) (omega arith), rw (part-from c.args.own.now lo, length-drop lo c.args.own.now) (omega arith), c.requires.3)

pub returns-in-Skip : goal.returns-in-Skip
unfolding of_table
returns-in-Skip c = rw c.in-Skip.is refl

pub returns-in-Fingerprint : goal.returns-in-Fingerprint
returns-in-Fingerprint c = rw c.in-Fingerprint.is (c.equals_own.ensures ∙ print_of_table _ _)

pub returns-in-Ids : goal.returns-in-Ids
returns-in-Ids c =
    let a = c.args in
    rw c.in-Ids.is (c.same_ids.ensures ∙ list_of_table (lent a.times.now a.own.now) c.requires.0 a.span.lo a.span.hi c.in-Ids.count c.in-Ids.at a.m.now c.requires.1.1)
