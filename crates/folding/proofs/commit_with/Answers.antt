-- `folding::commit_with` meets its contract.
use Prim.Native.Nat.{◌+◌}
use native.Mathlib.Omega.{arith}
use lib.ListN.{length}
use Rattle.std.proofs.lemmas.Result.{err_from_is_err_and}
use Rattle.label.specs.Label.{empty}
use Rattle.table.specs.Code.{lent}
use Rattle.table.proofs.Items.{right_size}
use Rattle.fold.proofs.Laying.{holds, needed-fits}
use Rattle.fold.proofs.Commits.{own-passes}
use Rattle.folding.specs.Code.{lent_to}
use Rattle.folding.proofs.Committing.{inquiry_due, refused-inquiry, commit_is}
use Rattle.folding.proofs.commit_with.Goals as goal

pub returns-in_err-inquiry : goal.returns-in_err-inquiry
returns-in_err-inquiry c =
    let a = c.args in
    let p = err_from_is_err_and c.from_residual.result c.from_residual.ensures.1 in
    λ marked label. rw (p.1, p.2)
    (refused-inquiry a.count (lent_to a.times.now a.ids.now a.needed.now marked label a.size a.done) (lent a.fresh.now a.freshids.now) _
    (c.in_err-inquiry.ensures.answer_value marked label))

pub merge-requires : goal.merge-requires
merge-requires c =
    let a = c.args in
    let l = lent_to a.times.now a.ids.now a.needed.now 0 empty a.size a.done in
    let d = (inquiry_due a.count l (lent a.fresh.now a.freshids.now) _ _ (c.in_ok-inquiry.ensures.answer_value 0 empty)).0 in
    let h = holds (a.count + length a.fresh.now) l.table d.room in
    (h.0, omega (arith, h.1), own-passes a.count l (lent a.fresh.now a.freshids.now) d, (d.batch-size, d.batch-order))

pub take_out-left-requires : goal.take_out-left-requires
take_out-left-requires c =
    let a = c.args in
    let l = lent_to a.times.now a.ids.now a.needed.now 0 empty a.size a.done in
    let B = lent a.fresh.now a.freshids.now in
    let d = (inquiry_due a.count l B _ _ (c.in_ok-inquiry.ensures.answer_value 0 empty)).0 in
    let f = needed-fits l d.list in
    let i = c.inquire_with in (
      f.room,
      omega (arith, (right_size B d.batch-size).0),
      f.rises,
      omega (arith, c.requires.0, i.auto.ends),
      omega (arith, c.requires.1, i.auto.marks),
      c.in_ok-inquiry.ensures.marked,
    )

pub overflow_add-result : goal.overflow_add-result
overflow_add-result c =
    let a = c.args in
    let l = lent_to a.times.now a.ids.now a.needed.now 0 empty a.size a.done in
    let d = inquiry_due a.count l (lent a.fresh.now a.freshids.now) _ _ (c.in_ok-inquiry.ensures.answer_value 0 empty) in
    omega (arith, d.1, holds (a.count + length a.fresh.now) l.table d.0.room)

pub returns : goal.returns
returns c =
    let a = c.args in
    let m = c.merge in
    let t = c.take_out-left in
    λ marked label.
    let l = lent_to a.times.now a.ids.now a.needed.now marked label a.size a.done in
    let B = lent a.fresh.now a.freshids.now in
    let d = inquiry_due a.count l B _ _ (c.in_ok-inquiry.ensures.answer_value marked label) in
    rw (d.1, t.ensures.value) (commit_is a.count l B d.0 (lent m.new.times m.new.ids) m.ensures t.new.list t.ensures.list_after)
