-- `window::select::offer` meets its contract.
use Prim.Native.Nat.{◌+◌, ◌<◌}
use mathlib.Core.Path.{◌≡◌}
use native.Mathlib.Omega.{arith}
use lib.ListN.{length-set}
use Rattle.index.proofs.Heaps.{rearranged_none}
use Rattle.window.proofs.Selecting.{first-points, first-worded, first_heap, first_offered, last-worded, last_offered}
use Rattle.window.proofs.select.offer.Goals as goal

pub sift-requires : goal.sift-requires
sift-requires c =
    let full : c.args.n ≡ 11008 = let h = c.requires.3.few in
    let t = c.if-n-ge11008.true in
    omega arith in
    let a = c.args in
    let p = c.requires in
    let w = c.word-v in
    let e = full in (
      omega arith,
      simp length-set (omega arith),
      omega arith,
      first-points a.m.now a.words.now a.pos.now a.n a.p w.result p.1 p.2 p.3 p.0 w.ensures e,
      first_heap a.m.now a.words.now a.pos.now a.n a.p w.result p.1 p.2 p.3 p.0 w.ensures e,
      simp length-set (omega arith),
      first-worded a.m.now a.words.now a.pos.now a.n a.p w.result p.1 p.2 p.3 p.0 w.ensures e,
    )

pub returns-then-n-ge11008 : goal.returns-then-n-ge11008
returns-then-n-ge11008 c =
    let full : c.args.n ≡ 11008 = let h = c.requires.3.few in
    let t = c.if-n-ge11008.true in
    omega arith in
    let a = c.args in
    let p = c.requires in
    let w = c.word-v in
    let r = c.sift in
    first_offered a.m.now a.words.now a.pos.now a.n a.p w.result p.1 p.2 p.3 p.0 w.ensures (full) r.new.words r.new.pos r.ensures.0 r.ensures.2 r.ensures.1

pub returns-then-more-eq11008 : goal.returns-then-more-eq11008
returns-then-more-eq11008 c =
    let a = c.args in
    let p = c.requires in
    let w = c.word-v in
    let e : a.n + 1 ≡ 11008 = c.if-more-eq11008.true in
    let h : a.n < 11008 = c.if-n-ge11008.false in
    let r = c.build in
    last_offered a.m.now a.words.now a.pos.now a.n a.p w.result p.1 p.2 p.3 p.0 w.ensures h r.new.words r.new.pos (rw e r.ensures.0) (rw e r.ensures.2) (λ _. rw e r.ensures.1)

pub returns-else-more-eq11008 : goal.returns-else-more-eq11008
returns-else-more-eq11008 c =
    let a = c.args in
    let p = c.requires in
    let w = c.word-v in
    let h : a.n < 11008 = c.if-n-ge11008.false in
    last_offered a.m.now a.words.now a.pos.now a.n a.p w.result p.1 p.2 p.3 p.0 w.ensures h _ _ (rearranged_none _ _)
    (last-worded a.m.now a.words.now a.pos.now a.n a.p w.result p.1 p.2 p.3 p.0 w.ensures h) (λ e. absurd (c.if-more-eq11008.false e))
