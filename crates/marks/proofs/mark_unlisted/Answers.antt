-- `marks::mark_unlisted` meets its contract. The invariant: the marks from `lo` up to the place are set.
use Rattle.std.proofs.Common.{ℕ, ◌+◌, ◌-◌, ◌≤◌, Bool, eqb, length, take, get_or, arith}
use Rattle.std.proofs.lemmas.List.{length-take-le}
use Rattle.message.specs.Code.{ids_in}
use Rattle.index.proofs.Setting.{SetTo, set-none, set-block, set_all}
use Rattle.marks.proofs.Marking.{missing, found_tells}
use Rattle.marks.proofs.mark_unlisted.Goals as goal

pub loop-j-init : goal.loop-j-init
loop-j-init g c =
    let a = c.args in
    record {
      from = omega arith;
      upto = omega arith;
      done = set-none (missing a.own.now (ids_in a.count a.list.now)) a.lo a.lo a.marks.now a.marks.now (omega arith);
    }

pub loop-j-preserved : goal.loop-j-preserved
loop-j-preserved g c =
    let a = c.args in
    let l = c.loop-j in
    let n = c.block-n.result in
    let e = c.contains_each in
    let found = e.new.found in
    let few : n ≤ length found = omega (arith, c.block-n.ensures.1, e.auto.found) in
    let u : ℕ → Bool = λ k. eqb (get_or (take n found) (k - l.j) 0) 0 in
    let part : SetTo u l.j (l.j + n) l.marks c.mark_missing.new.marks = rw (length-take-le n found few) at c.mark_missing.ensures in
    record {
      from = omega arith;
      upto = omega arith;
      done = set-block (missing a.own.now (ids_in a.count a.list.now)) u a.lo l.j n a.marks.now l.marks c.mark_missing.new.marks l.invariant.from
          (found_tells a.own.now a.list.now found a.count l.j n few e.ensures) l.invariant.done part;
    }

pub returns : goal.returns
returns g c =
    let a = c.args in
    let l = c.loop-j in
    set_all (missing a.own.now (ids_in a.count a.list.now)) a.lo l.j a.marks.now l.marks a.hi (omega arith) l.invariant.upto l.invariant.done
