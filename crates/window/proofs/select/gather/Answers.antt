-- `window::select::gather` meets its contract. The invariant: what the ranges before the walk add has been offered.
use Prim.Native.Nat.{◌+◌, ◌-◌, ◌*◌, ◌≤◌}
use native.Mathlib.Omega.{arith}
use lib.ListN.{length}
use Rattle.table.specs.Code.{lent}
use Rattle.walk.proofs.Adding.{own_room, ids-inside}
use Rattle.window.proofs.Selecting.{none_left, ids-left, ranges-end, picking_kept}
use Rattle.index.proofs.Rooms.{room-kept}
use Rattle.window.proofs.select.gather.Goals as goal

pub gather_list-n-requires : goal.gather_list-n-requires
gather_list-n-requires c =
    let a = c.args in
    let l = c.loop-walk in
    let t = c.step-step in
    let span = t.result.span in
    let inside = t.ensures.span in
    let fits : span.lo * 32 + (span.hi - span.lo) * 32 ≤ length a.own.now = (own_room (lent a.times.now a.own.now) span c.requires.0 inside).0 in (
      inside.0,
      omega (arith, inside.0),
      ids-inside t.result.payload (length a.m.now) _ _ c.in-Ids.is t.ensures.payload,
      c.requires.4,
      omega arith,
      omega arith,
      l.invariant.placed,
      room-kept a.keys.now a.places.now a.found.now l.keys l.places l.found c.requires.5 l.auto.keys l.auto.places l.auto.found,
      picking_kept a.ids.now a.picks.now a.found.now l.ids l.picks l.found c.requires.6 l.auto.ids l.auto.picks l.auto.found,
    )

pub loop-walk-preserved-in-Ids : goal.loop-walk-preserved-in-Ids
loop-walk-preserved-in-Ids c =
    let a = c.args in
    let l = c.loop-walk in
    let t = c.step-step in
    let u = c.gather_list-n in record {
      walking = t.ensures.next;
      placed = u.ensures.0;
      gathering = u.ensures.1 _ _ (ids-left (lent a.times.now a.own.now) a.m.now l.walk _ _ _ _ l.invariant.gathering t.result t.ensures c.in-Ids.count c.in-Ids.at c.in-Ids.is);
    }

pub loop-walk-preserved : goal.loop-walk-preserved
loop-walk-preserved c =
    let a = c.args in
    let l = c.loop-walk in
    let t = c.step-step in record {
      walking = t.ensures.next;
      placed = l.invariant.placed;
      gathering = none_left (lent a.times.now a.own.now) a.m.now l.walk _ _ _ _ l.invariant.gathering t.result t.ensures c.in_default.not-Ids;
    }

pub returns : goal.returns
returns c =
    let l = c.loop-walk in
    ranges-end (lent c.args.times.now c.args.own.now) c.args.m.now l.walk _ _ _ _ l.invariant.gathering l.words c.loop-walk-test.false l.invariant.placed
