-- `judging::merge::query_answered` meets its contract. The invariant: `Judging`.
use native.Mathlib.Omega.{arith}
use Rattle.message.proofs.Order.{small_bytes}
use Rattle.table.specs.Code.{lent}
use Rattle.judging.specs.Private.{bound_at}
use Rattle.judging.proofs.Judging.{step_rises, judging_start, judging_next, judging_stop, judging_end}
use Rattle.judging.proofs.merge.query_answered.Goals as goal

pub loop-walk-init : goal.loop-walk-init
loop-walk-init c =
    let a = c.args in
    rw (c.start-walk.ensures, c.start-other.ensures) (judging_start (lent a.times.now a.own.now) a.query.now a.reply.now c.requires.1 c.requires.2)

pub range_answered-requires : goal.range_answered-requires
range_answered-requires c =
    let a = c.args in
    let l = c.loop-walk in
    let lower = c.lower_of-lower.ensures in
    let upper = c.upper_of-upper.ensures in
    let bytes = small_bytes a.query.now (λ k. omega (arith, c.type_inv.query k)) in
    let up = step_rises (lent a.times.now a.own.now) a.query.now l.walk c.step-payload.result bytes l.invariant.walking c.step-payload.ensures in
    (c.requires.0, l.invariant.other, rw lower l.invariant.low, rw (lower, upper) up.0, rw upper up.1)

pub returns-in_default : goal.returns-in_default
returns-in_default c =
    let a = c.args in
    let l = c.loop-walk in
    judging_stop (lent a.times.now a.own.now) a.query.now a.reply.now l.walk l.other l.invariant
    (small_bytes a.query.now (λ k. omega (arith, c.type_inv.query k)))
    c.step-payload.result c.step-payload.ensures c.asks-asked.result c.asks-asked.ensures
    (bound_at c.lower_of-lower.result) c.lower_of-lower.ensures (rw c.upper_of-upper.ensures at c.in_default.ensures)

pub loop-walk-preserved : goal.loop-walk-preserved
loop-walk-preserved c =
    let a = c.args in
    let l = c.loop-walk in
    judging_next (lent a.times.now a.own.now) a.query.now a.reply.now l.walk l.other l.invariant
    (small_bytes a.query.now (λ k. omega (arith, c.type_inv.query k)))
    c.step-payload.result c.step-payload.ensures c.asks-asked.result c.asks-asked.ensures
    (bound_at c.lower_of-lower.result) c.lower_of-lower.ensures c.in-Some.met (rw c.upper_of-upper.ensures at c.in-Some.ensures)

pub returns : goal.returns
returns c =
    let a = c.args in
    let l = c.loop-walk in
    judging_end (lent a.times.now a.own.now) a.query.now a.reply.now l.walk l.other l.invariant c.loop-walk-test.false
    (bound_at c.lower_of.result) c.lower_of.ensures c.rest_answered.result c.rest_answered.ensures
