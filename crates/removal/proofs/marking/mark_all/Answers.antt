-- `removal::marking::mark_all` meets its contract. The invariant: the first lo ids are passed, `Marking`.
use Prim.Native.Nat.{◌*◌, ◌/◌}
use native.Mathlib.Omega.{arith}
use lib.ListN.{length}
use Rattle.message.specs.Code.{ids_in}
use Rattle.message.proofs.Forms.{ids-count}
use Rattle.writer.proofs.Laying.{rest, rest_is, rest-length}
use Rattle.removal.proofs.Blocks.{marking_starts, marking_goes}
use Rattle.removal.proofs.Removing.{window_rises}
use Rattle.removal.proofs.Surveying.{found-most}
use Rattle.removal.proofs.marking.mark_all.Goals as goal

pub loop-lo-init : goal.loop-lo-init
loop-lo-init c =
    let a = c.args in
    marking_starts (ids_in a.m a.ids.now) a.list.now a.count a.marks.now

pub mark_window-found-requires : goal.mark_window-found-requires
mark_window-found-requires c =
    let a = c.args in
    let l = c.loop-lo in
    let n = c.fitting-n in
    let whole = l.invariant.whole (omega arith) in (
      omega arith,
      omega (arith, rest-length (l.lo * 32) a.list.now),
      c.requires.1,
      omega (arith, rest-length (l.lo / 8) l.marks),
      rw (rest_is (l.lo * 32) a.list.now) (window_rises a.list.now a.count l.lo n.result (omega arith) c.requires.3),
    )

pub overflow_add-found : goal.overflow_add-found
overflow_add-found c =
    let a = c.args in
    let l = c.loop-lo in
    let us = ids_in a.m a.ids.now in
    let e = l.invariant.in_list in
    let f = c.mark_window-found.ensures.value in
    omega (arith, found-most us (ids_in l.lo a.list.now), found-most us (ids_in c.fitting-n.result (rest (l.lo * 32) a.list.now)), ids-count a.m a.ids.now)

pub loop-lo-preserved : goal.loop-lo-preserved
loop-lo-preserved c =
    let a = c.args in
    let l = c.loop-lo in
    let n = c.fitting-n in
    let w = c.mark_window-found in
    marking_goes (ids_in a.m a.ids.now) a.list.now a.count l.marks l.found l.lo l.invariant (omega arith) c.requires.3 (omega arith)
    n.result (length l.ends) n.ensures w.result w.new.marks w.ensures.value w.ensures.marks_after
