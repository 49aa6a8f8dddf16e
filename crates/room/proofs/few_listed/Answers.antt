-- `room::few_listed` meets its contract. The invariant: what is left of the room, and what the ranges from the walk on add.
use mathlib.Core.Path.{ap}
use native.Mathlib.Omega.{arith}
use lib.ListN.{length}
use Rattle.table.specs.Code.{lent}
use Rattle.walk.proofs.Adding.{added_ends}
use Rattle.needed.proofs.Batching.{others-add-none}
use Rattle.room.proofs.Unowned.{list_adds_few}
use Rattle.room.proofs.few_listed.Goals as goal

pub loop-walk-preserved-in-Ids : goal.loop-walk-preserved-in-Ids
loop-walk-preserved-in-Ids c =
    let l = c.loop-walk in
    let t = c.step-step in
    let f = list_adds_few (lent c.args.times.now c.args.own.now) c.args.m.now l.walk t.result t.ensures c.in-Ids.count c.in-Ids.at c.in-Ids.is in
    record { walking = t.ensures.next; fits = omega arith; few = omega (arith, f) }

pub loop-walk-preserved : goal.loop-walk-preserved
loop-walk-preserved c =
    let l = c.loop-walk in
    let t = c.step-step in
    let e = ap length (others-add-none (lent c.args.times.now c.args.own.now) c.args.m.now l.walk t.result t.ensures c.in_default.not-Ids) in
    record { walking = t.ensures.next; fits = l.invariant.fits; few = omega (arith, e) }

pub returns : goal.returns
returns c =
    let e = ap length (added_ends (lent c.args.times.now c.args.own.now) c.args.m.now c.loop-walk.walk c.loop-walk-test.false) in
    λ _. omega (arith, e)
