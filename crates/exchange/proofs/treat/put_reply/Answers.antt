-- `exchange::treat::put_reply` meets its contract. The invariant: what the ranges up to the walk become is handed over.
use mathlib.Core.Path.{◌≡◌, refl, ap}
use Rattle.std.proofs.lemmas.Result.{err_from_is_err_and}
use Rattle.writer.specs.Writing.{verdict_of}
use Rattle.writer.specs.Stream.{before}
use Rattle.writer.specs.Handover.{writes, buffer_of}
use Rattle.reader.specs.Private.{lower_at}
use Rattle.table.specs.Code.{lent}
use Rattle.exchange.proofs.Treating.{treated_start, treated_end, treated_next, treated_stop}
use Rattle.exchange.proofs.treat.put_reply.Goals as goal

pub loop-walk-init : goal.loop-walk-init
loop-walk-init c =
    let a = c.args in
    rw c.start-walk.ensures (treated_start (writes a.pass) _ (lent a.times.now a.own.now) a.m.now (before a.writer.now (buffer_of a.pass a.out.now)) refl c.requires.2)

pub returns-in_err-put_treated : goal.returns-in_err-put_treated
returns-in_err-put_treated c =
    let p = err_from_is_err_and c.from_residual.result c.from_residual.ensures.1 in
    let was = c.in_err-put_treated.was in
    let same : c.from_residual.result ≡ c.put_treated.result = cc in
    let l = c.loop-walk in
    rw same
    (treated_stop _ _ (lent c.args.times.now c.args.own.now) _ _ _ l.walk _ l.invariant c.step-payload.result c.step-payload.ensures _ (c.put_treated.ensures (lower_at l.walk.cursor) c.step-payload.ensures.own) _ (ap verdict_of was))

pub loop-walk-preserved : goal.loop-walk-preserved
loop-walk-preserved c =
    let l = c.loop-walk in
    rw c.in_ok-put_treated.was at
    (treated_next _ _ (lent c.args.times.now c.args.own.now) _ _ _ l.walk _ l.invariant c.step-payload.result c.step-payload.ensures _ (c.put_treated.ensures (lower_at l.walk.cursor) c.step-payload.ensures.own) (ap verdict_of c.in_ok-put_treated.was))

pub returns : goal.returns
returns c =
    let l = c.loop-walk in
    treated_end _ _ (lent c.args.times.now c.args.own.now) _ _ _ l.walk _ l.invariant c.loop-walk-test.false
