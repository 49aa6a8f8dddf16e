-- `judging::merge::range_answered` meets its contract. The invariant: `Merging`.
use mathlib.Core.Path.{sym, ◌∙◌}
use native.Mathlib.Omega.{arith}
use Rattle.message.proofs.Order.{small_bytes}
use Rattle.table.specs.Code.{lent}
use Rattle.judging.specs.Private.{bound_at}
use Rattle.judging.proofs.Merging.{merging_start, merging_next, merging_stop, merging_end}
use Rattle.judging.proofs.merge.range_answered.Goals as goal

pub loop-walk-init : goal.loop-walk-init
loop-walk-init c =
    let a = c.args in
    merging_start (lent a.times.now a.own.now) a.reply.now a.asked (bound_at a.lower) (bound_at a.upper) a.walk c.requires.1 c.requires.2 c.requires.3

pub returns-then-not-is_below : goal.returns-then-not-is_below
returns-then-not-is_below c =
    let a = c.args in
    let l = c.loop-walk in
    let end = c.upper_of-end.ensures in
    let bytes = small_bytes a.reply.now (λ k. omega (arith, c.type_inv.reply k)) in
    rw c.then_some.ensures
    (merging_stop (lent a.times.now a.own.now) a.reply.now a.asked (bound_at a.lower) (bound_at a.upper) a.walk l.sofar l.walk l.invariant c.note-sofar.result
    c.step-payload.result c.step-payload.ensures c.is_below.result (rw end at c.is_below.ensures) (c.note-sofar.ensures a.reply.now)
    bytes (rw end at (sym c.is_below-in-loop-walk.ensures ∙ c.if-not-is_below.true)) c.conclude.result c.conclude.ensures)

pub loop-walk-preserved : goal.loop-walk-preserved
loop-walk-preserved c =
    let a = c.args in
    let l = c.loop-walk in
    let end = c.upper_of-end.ensures in
    merging_next (lent a.times.now a.own.now) a.reply.now a.asked (bound_at a.lower) (bound_at a.upper) a.walk l.sofar l.walk l.invariant c.note-sofar.result
    c.step-payload.result c.step-payload.ensures c.is_below.result (rw end at c.is_below.ensures) (c.note-sofar.ensures a.reply.now)
    (rw end at (sym c.is_below-in-loop-walk.ensures ∙ c.if-not-is_below.false))

pub returns : goal.returns
returns c =
    let a = c.args in
    let l = c.loop-walk in
    rw c.then_some-2.ensures
    (merging_end (lent a.times.now a.own.now) a.reply.now a.asked (bound_at a.lower) (bound_at a.upper) a.walk l.sofar l.walk l.invariant c.note-sofar-2.result
    (omega (arith, c.requires.3, c.requires.4)) c.loop-walk-test.false (c.note-sofar-2.ensures a.reply.now) c.conclude-2.result c.conclude-2.ensures)
