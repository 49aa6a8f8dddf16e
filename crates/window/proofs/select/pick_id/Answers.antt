-- `window::select::pick_id` meets its contract.
use Prim.Native.Nat.{◌+◌, ◌-◌, ◌*◌, ◌≤◌}
use native.Mathlib.Omega.{arith}
use lib.ListN.{length, drop, length-drop}
use lib.Seq.{drop-drop}
use borrow.Rule.Slice.PartMut.{put_mid}
use mathlib.Core.Path.{◌≡◌, refl}
use Rattle.window.specs.Windows.{limits, picked_at}
use Rattle.window.proofs.Selecting.{pick_none, picked_more, copied_to, one_picked}
use Rattle.window.proofs.select.pick_id.Goals as goal

pub returns-then-not-wanted : goal.returns-then-not-wanted
returns-then-not-wanted c =
    let a = c.args in (
      omega arith,
      c.requires.7,
      λ o all rest g. pick_none o a.m.now all rest (limits a.interval a.m.now) a.pos.now a.n a.words.now a.p (picked_at a.m.now a.picks.now a.k) c.requires.4
          c.wanted.result c.wanted.ensures c.if-not-wanted.true g,
    )

pub returns : goal.returns
returns c =
    let a = c.args in
    let room = c.requires.5 in
    let wide = c.requires.6 in
    let inside = c.requires.0 in
    let whole : 32 ≤ length (drop a.p a.m.now) = omega (arith, length-drop a.p a.m.now) in
    let size : a.k * 32 + 32 - a.k * 32 ≡ 32 = omega arith in
    let read : a.p + 32 - a.p ≡ 32 = omega arith in
    let written : put_mid (a.k * 32) (a.k * 32 + 32 - a.k * 32) a.ids.now c.copy_from_slice.new.self ≡ copied_to a.ids.now (drop a.p a.m.now) a.k (omega arith) whole =
    rw (c.copy_from_slice.ensures.after, read, size, drop-drop 32 (a.k * 32) a.ids.now) refl in (
      omega arith,
      rw written (one_picked a.ids.now (drop a.p a.m.now) a.k (omega arith) whole a.m.now a.picks.now a.p c.requires.7 room inside refl),
      λ o all rest g. rw (picked_more a.m.now a.picks.now a.p a.k room) g,
    )
