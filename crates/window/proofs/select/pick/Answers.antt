-- `window::select::pick` meets its contract. The invariant: of the ids before the next, those that were wanted are picked.
use Prim.Native.Nat.{◌+◌}
use mathlib.Core.Path.{◌≡◌, refl}
use mathlib.Core.List.{◌++◌}
use native.Mathlib.Omega.{arith}
use Rattle.window.specs.Windows.{limits, picked_at}
use Rattle.window.proofs.Selecting.{others_from, none_picked, picked_none, pick_next}
use Rattle.window.proofs.select.pick.Goals as goal

pub loop-next-init : goal.loop-next-init
loop-next-init c =
    let a = c.args in record {
      few = omega arith;
      picked = none_picked a.m.now a.ids.now a.picks.now;
      left = λ o all rest g. rw (picked_none o a.m.now a.picks.now 0 (others_from o a.m.now a.at a.count a.start ++ rest) refl) g;
    }

pub loop-next-preserved : goal.loop-next-preserved
loop-next-preserved c =
    let a = c.args in
    let l = c.loop-next in
    let u = c.pick_id-k in
    let more = u.ensures.0 in record {
      few = omega arith;
      picked = u.ensures.1;
      left = λ o all rest g. u.ensures.2 o all (others_from o a.m.now a.at a.count (l.next + 1) ++ rest)
          (pick_next o a.m.now all rest (limits a.interval a.m.now) a.pos.now a.n a.at a.count l.next (picked_at a.m.now l.picks l.k) (omega arith) (l.invariant.left o all rest g));
    }

pub returns : goal.returns
returns c =
    let l = c.loop-next in
    let end : l.next ≡ c.args.count = omega arith in
    (c.requires.1, omega arith, l.invariant.picked, rw end at l.invariant.left)
