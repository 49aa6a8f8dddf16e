-- `window::select::offer_picked` meets its contract. The invariant: the ids from place number k on have been offered.
use Prim.Native.Nat.{◌-◌}
use mathlib.Core.List.{◌++◌}
use native.Mathlib.Omega.{arith}
use lib.ListN.{get_or}
use Rattle.walk.specs.Adding.{without}
use Rattle.window.specs.Windows.{limits, picked_at}
use Rattle.window.proofs.Selecting.{picked_step, picked_none}
use Rattle.window.proofs.select.offer_picked.Goals as goal

pub loop-k-preserved : goal.loop-k-preserved
loop-k-preserved c =
    let a = c.args in
    let l = c.loop-k in
    let u = c.offer_unless-n in record {
      placed = u.ensures.0;
      offered = λ o all rest h g. u.ensures.1 all (without o (picked_at a.m.now a.picks.now (l.k - 1)) ++ rest)
          (picked_step o a.m.now all rest (limits a.interval a.m.now) l.pos l.n a.picks.now l.k (omega arith)
          (get_or a.found.now (l.k - 1) 0) (h (l.k - 1) (omega arith)) (l.invariant.offered o all rest h g));
    }

pub returns : goal.returns
returns c =
    let a = c.args in
    let l = c.loop-k in
    (l.invariant.placed, λ o all rest h g. rw (picked_none o a.m.now a.picks.now l.k rest (omega arith)) at (l.invariant.offered o all rest h g))
