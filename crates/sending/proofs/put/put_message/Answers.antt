-- `sending::put::put_message` meets its contract.
use mathlib.Core.Path.{refl}
use Rattle.writer.specs.Handover.{writes}
use Rattle.table.specs.Code.{lent}
use Rattle.cutting.specs.Code.{cut_of}
use Rattle.sending.proofs.Sending.{opening-hands, made-answer, made-query}
use Rattle.sending.proofs.put.put_message.Goals as goal

pub returns-in-FirstQuery : goal.returns-in-FirstQuery
returns-in-FirstQuery c =
    let a = c.args in
    rw c.in-FirstQuery.is
    (opening-hands (writes a.pass) (lent a.times.now a.own.now) (cut_of a.cut) _ _ _ refl (rw c.whole.ensures at c.put_cut.ensures))

pub returns-in-Answer : goal.returns-in-Answer
returns-in-Answer c =
    let a = c.args in
    rw (c.in-Answer.is, ← made-answer (cut_of a.cut) (lent a.times.now a.own.now) a.m.now) c.put_reply.ensures

pub returns-in-NextQuery : goal.returns-in-NextQuery
returns-in-NextQuery c =
    let a = c.args in
    rw (c.in-NextQuery.is, ← made-query (cut_of a.cut) (lent a.times.now a.own.now) a.m.now) c.put_reply-in-NextQuery.ensures
