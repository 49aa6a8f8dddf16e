-- `exchange::treat::put_skip` meets its contract.
use Rattle.message.specs.declared.Payload.{Payload}
use Rattle.writer.specs.Handover.{writes, buffer_of}
use Rattle.writer.proofs.Handover.{hands-put}
use Rattle.exchange.proofs.treat.put_skip.Goals as goal

pub returns : goal.returns
returns c =
    let a = c.args in
    let put = c.put.ensures in
    hands-put (writes a.pass) (record { range = record { bound = a.span.bound; prefix = a.span.prefix; payload = Payload.Skip }; source = a.m.now })
    a.writer.now c.put.new.self (buffer_of a.pass a.out.now) (buffer_of a.pass c.put.new.out) c.put.result (c.requires, tt) put.verdict_value put.writer_after put.out_after
