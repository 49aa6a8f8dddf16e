-- `judging::sets::all_listed` meets its contract. The invariant: the ids up to place i are listed.
use mathlib.Core.Path.{sym, ◌∙◌}
use native.Mathlib.Omega.{arith}
use Rattle.judging.proofs.Listing.{block_listed, block-unlisted, all_listed}
use Rattle.judging.proofs.sets.all_listed.Goals as goal

pub returns-then-not-all_found : goal.returns-then-not-all_found
returns-then-not-all_found c =
    let a = c.args in
    let t = c.contains_each in
    sym (block-unlisted a.list.now a.count a.ids.now c.loop-i.i c.block-part.result a.n t.new.found (omega arith) t.ensures
    (rw c.if-not-all_found.true at c.all_found.ensures))

pub loop-i-preserved : goal.loop-i-preserved
loop-i-preserved c =
    let a = c.args in
    let v = c.loop-i.invariant in
    let t = c.contains_each in (
      omega arith,
      t.auto.words ∙ v.1,
      t.auto.pos ∙ v.2,
      t.auto.found ∙ v.3,
      block_listed a.list.now a.count a.ids.now c.loop-i.i c.block-part.result t.new.found t.ensures (rw c.if-not-all_found.false at c.all_found.ensures) v.4,
    )

pub returns : goal.returns
returns c =
    let a = c.args in
    let l = c.loop-i in
    sym (all_listed a.list.now a.count a.ids.now l.i a.n (omega arith) l.invariant.4)
