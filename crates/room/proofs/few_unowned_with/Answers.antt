-- `room::few_unowned_with` meets its contract. The invariant: what is left of the room, and what the ranges from the walk on add.
use Prim.Native.Nat.{◌+◌, ◌-◌, ◌*◌, ◌≤◌}
use mathlib.Core.Path.{ap}
use native.Mathlib.Omega.{arith}
use lib.ListN.{length}
use Rattle.table.specs.Code.{lent}
use Rattle.walk.proofs.Adding.{own_room, ids-inside, added_ends}
use Rattle.needed.proofs.Batching.{others-add-none}
use Rattle.index.proofs.Rooms.{room-kept}
use Rattle.room.proofs.Unowned.{list_adds_unowned}
use Rattle.room.proofs.few_unowned_with.Goals as goal

pub count_unowned-more-requires : goal.count_unowned-more-requires
count_unowned-more-requires c =
    let a = c.args in
    let l = c.loop-walk in
    let t = c.step-step in
    let span = t.result.span in
    let ordered = t.ensures.span.0 in
    let own : span.lo * 32 + (span.hi - span.lo) * 32 ≤ length a.own.now = (own_room (lent a.times.now a.own.now) span c.requires.0 t.ensures.span).0 in (
      ordered,
      omega (arith, ordered),
      ids-inside t.result.payload (length a.m.now) c.in-Ids.count c.in-Ids.at c.in-Ids.is t.ensures.payload,
      room-kept a.keys.now a.places.now a.found.now l.keys l.places l.found c.requires.2 l.auto.keys l.auto.places l.auto.found,
    )

pub loop-walk-preserved-in-Ids : goal.loop-walk-preserved-in-Ids
loop-walk-preserved-in-Ids c =
    let l = c.loop-walk in
    let t = c.step-step in
    let f = list_adds_unowned (lent c.args.times.now c.args.own.now) c.args.m.now l.walk t.result t.ensures c.in-Ids.count c.in-Ids.at c.in-Ids.is in
    let n = c.count_unowned-more.ensures (omega arith) in
    record { walking = t.ensures.next; fits = omega arith; few = omega (arith, f, n) }

pub loop-walk-preserved : goal.loop-walk-preserved
loop-walk-preserved c =
    let l = c.loop-walk in
    let t = c.step-step in
    let e = ap length (others-add-none (lent c.args.times.now c.args.own.now) c.args.m.now l.walk t.result t.ensures c.in_default.not-Ids) in
    record { walking = t.ensures.next; fits = l.invariant.fits; few = omega (arith, e) }

pub returns : goal.returns
returns c =
    let e = ap length (added_ends (lent c.args.times.now c.args.own.now) c.args.m.now c.loop-walk.walk c.loop-walk-test.false) in
    λ _. omega (arith, e)
