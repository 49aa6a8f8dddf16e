-- `sending::stop::stop_message` meets its contract.
use Rattle.table.specs.Code.{lent}
use Rattle.cutting.specs.Code.{cut_of}
use Rattle.sending.proofs.Sending.{made-answer, made-query}
use Rattle.sending.proofs.stop.stop_message.Goals as goal

pub stop_reply-requires : goal.stop_reply-requires
stop_reply-requires c =
    let a = c.args in
    let told = c.in-Answer.is in
    (c.requires.0, c.requires.1, rw told at c.requires.2, c.requires.3, rw (made-answer (cut_of a.cut) (lent a.times.now a.own.now) a.m.now) (rw told at c.requires.4))

pub stop_reply-requires-in-NextQuery : goal.stop_reply-requires-in-NextQuery
stop_reply-requires-in-NextQuery c =
    let a = c.args in
    let told = c.in-NextQuery.is in
    (c.requires.0, c.requires.1, rw told at c.requires.2, c.requires.3, rw (made-query (cut_of a.cut) (lent a.times.now a.own.now) a.m.now) (rw told at c.requires.4))

pub returns-in-Answer : goal.returns-in-Answer
returns-in-Answer c =
    let a = c.args in
    rw (c.in-Answer.is, ← made-answer (cut_of a.cut) (lent a.times.now a.own.now) a.m.now) c.stop_reply.ensures

pub returns-in-NextQuery : goal.returns-in-NextQuery
returns-in-NextQuery c =
    let a = c.args in
    rw (c.in-NextQuery.is, ← made-query (cut_of a.cut) (lent a.times.now a.own.now) a.m.now) c.stop_reply-in-NextQuery.ensures
