-- `folding::inquire_checked` meets its contract.
use Prim.Native.Nat.{◌+◌, ◌*◌}
use mathlib.Core.Path.{refl, sym}
use native.Mathlib.Omega.{arith}
use lib.ListN.{length}
use lib.Seq.{length-take-le}
use Rattle.message.specs.Code.{ids_in}
use Rattle.table.specs.Code.{lent}
use Rattle.table.specs.Table.{Table, items}
use Rattle.table.proofs.Items.{items-length, right_size}
use Rattle.fold.specs.Fold.{front}
use Rattle.fold.proofs.Laying.{holds}
use Rattle.folding.proofs.Judging.{told_short, told-holds, front-lent}
use Rattle.folding.proofs.Due.{still_is, some-unlisted, due_is}
use Rattle.folding.proofs.inquire_checked.Goals as goal
use Rattle.folding.proofs.inquire_checked.Goals.{then-tally-entering-via-then-tally-entering, then-tally-entering-via-else-tally-entering+then-some_common}

pub survey-tally-requires : goal.survey-tally-requires
survey-tally-requires c =
    let B : Table = lent c.args.fresh.now c.args.freshids.now in
    (c.requires.3, omega (arith, (right_size B c.requires.2.0).0), c.requires.4, c.requires.5, c.requires.6)

pub overflow_mul-count : goal.overflow_mul-count
overflow_mul-count c = omega (arith, holds c.args.count (lent c.args.times.now c.args.ids.now) c.requires.0)

pub slice_bounds-some_common-end : goal.slice_bounds-some_common-end
slice_bounds-some_common-end c = sym (length-take-le c.args.count c.args.times.now (holds c.args.count (lent c.args.times.now c.args.ids.now) c.requires.0).0)

pub slice_bounds-some_common-end-else-tally-entering : goal.slice_bounds-some_common-end-else-tally-entering
slice_bounds-some_common-end-else-tally-entering c = sym (length-take-le (c.args.count * 32) c.args.ids.now (omega (arith, holds c.args.count (lent c.args.times.now c.args.ids.now) c.requires.0)))

pub some_common-requires : goal.some_common-requires
some_common-requires c = (rw (front-lent c.args.count c.args.times.now c.args.ids.now) c.requires.1, c.requires.2)

pub overflow_add-count : goal.overflow_add-count
overflow_add-count c = omega (arith, holds c.args.count (lent c.args.times.now c.args.ids.now) c.requires.0, right_size (lent c.args.fresh.now c.args.freshids.now) c.requires.2.0)

pub returns-then-tally-entering-clause-needed_value : goal.returns-then-tally-entering-clause-needed_value
returns-then-tally-entering-clause-needed_value c =
    let T : Table = lent c.args.times.now c.args.ids.now in
    let B : Table = lent c.args.fresh.now c.args.freshids.now in
    let ds = ids_in c.args.size c.args.needed.now in
    let own = items (front c.args.count T) in
    let s = c.survey-tally in
    elim c.then-tally-entering.branch [
      | then-tally-entering-via-then-tally-entering w ↦ rw (some-unlisted ds own B s.result.found s.ensures.found_value.0 w.if-tally-entering.true) refl
      | then-tally-entering-via-else-tally-entering+then-some_common w ↦
          rw (due_is ds own B s.result.found s.ensures.found_value.0 w.if-tally-entering.false w.some_common.result (rw (front-lent c.args.count c.args.times.now c.args.ids.now) at w.some_common.ensures), w.if-some_common.true) refl
    ]

pub returns-then-not-holds-clause-needed_value : goal.returns-then-not-holds-clause-needed_value
returns-then-not-holds-clause-needed_value c =
    let T : Table = lent c.args.times.now c.args.ids.now in
    let B : Table = lent c.args.fresh.now c.args.freshids.now in
    let s = c.survey-tally in
    let due = due_is (ids_in c.args.size c.args.needed.now) (items (front c.args.count T)) B s.result.found s.ensures.found_value.0 c.if-tally-entering.false c.some_common.result
    (rw (front-lent c.args.count c.args.times.now c.args.ids.now) at c.some_common.ensures) in
    rw (due, c.if-some_common.false, told_short (c.args.count + length c.args.fresh.now) T c.holds.result c.holds.ensures c.if-not-holds.true) refl

pub returns-clause-needed_value : goal.returns-clause-needed_value
returns-clause-needed_value c =
    let T : Table = lent c.args.times.now c.args.ids.now in
    let B : Table = lent c.args.fresh.now c.args.freshids.now in
    let ds = ids_in c.args.size c.args.needed.now in
    let s = c.survey-tally in
    let due = due_is ds (items (front c.args.count T)) B s.result.found s.ensures.found_value.0 c.if-tally-entering.false c.some_common.result
    (rw (front-lent c.args.count c.args.times.now c.args.ids.now) at c.some_common.ensures) in
    let room = told-holds (c.args.count + length c.args.fresh.now) T c.holds.result c.holds.ensures c.if-not-holds.false in
    rw (due, c.if-some_common.false, room, items-length B, still_is B ds, ← s.ensures.found_value.1) refl
