-- `removal::marking::mark_inside` meets its contract. The invariant: the first j ids are looked for.
use Prim.Native.Nat.{◌+◌, ◌*◌}
use mathlib.Core.Path.{sym, ◌∙◌}
use native.Mathlib.Omega.{arith}
use Rattle.message.specs.Code.{ids_in}
use Rattle.writer.proofs.Laying.{rest_is}
use Rattle.removal.specs.Removing.{bits_in}
use Rattle.removal.proofs.Removing.{Found, found_none, found-few, found-one, found-other, found-outside}
use Rattle.removal.proofs.marking.mark_inside.Goals as goal
use Rattle.removal.proofs.marking.mark_inside.Goals.{then-mark_one, else-mark_one}

pub loop-j-init : goal.loop-j-init
loop-j-init c =
    let a = c.args in
    let h = a.hints.now in
    let e = c.next_inside-j.ensures in
    record {
      few = e.1;
      found = found-outside h.list.now a.ids.now h.count h.low h.high h.some h.rises h.first h.last h.bytes (λ k. omega (arith, c.type_inv.ids k))
          (bits_in a.marks.now) 0 0 _ e.0 e.2 (found_none (ids_in h.count h.list.now) a.ids.now h.count (bits_in a.marks.now) c.requires.2);
    }

pub overflow_add-found : goal.overflow_add-found
overflow_add-found c =
    let h = c.args.hints.now in
    let l = c.loop-j in
    omega (arith, found-few (ids_in h.count h.list.now) c.args.ids.now h.count (bits_in l.marks) l.found l.j l.invariant.found)

pub loop-j-preserved : goal.loop-j-preserved
loop-j-preserved c =
    let a = c.args in
    let h = a.hints.now in
    let l = c.loop-j in
    let t = c.mark_one in
    let e = c.next_inside-j-in-loop-j.ensures in
    let ds = ids_in h.count h.list.now in
    let after = bits_in t.new.marks in
    let told = rw (rest_is (l.j * 32) a.ids.now) at t.ensures.value in
    let marked = rw (rest_is (l.j * 32) a.ids.now) at (t.ensures.by_index (ids_in l.j a.ids.now) l.invariant.found.marked) in
    let now : Found ds a.ids.now after h.count c.if-mark_one.found (l.j + 1) =
    elim c.if-mark_one.branch [
      | then-mark_one w ↦ rw w.found-is (found-one ds a.ids.now h.count (bits_in l.marks) l.found l.j l.invariant.found after (sym told ∙ w.if-mark_one.true) marked)
      | else-mark_one w ↦ rw w.found-is (found-other ds a.ids.now h.count (bits_in l.marks) l.found l.j l.invariant.found after (sym told ∙ w.if-mark_one.false) marked)
    ] in
    record {
      few = e.1;
      found = found-outside h.list.now a.ids.now h.count h.low h.high h.some h.rises h.first h.last h.bytes (λ k. omega (arith, c.type_inv.ids k))
          after c.if-mark_one.found (l.j + 1) _ e.0 e.2 now;
    }
