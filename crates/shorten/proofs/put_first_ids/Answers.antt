-- `shorten::put_first_ids` meets its contract.
use Rattle.writer.specs.Handover.{writes, buffer_of}
use Rattle.writer.proofs.Handover.{hands-put}
use Rattle.shorten.proofs.put_first_ids.Goals as goal

pub returns : goal.returns
returns c =
    let a = c.args in
    let f = c.first_ids-range.ensures in
    let put = c.put.ensures in
    rw (← f.0)
    (hands-put (writes a.pass) (record { range = c.first_ids-range.result; source = a.own.now }) a.writer.now c.put.new.self (buffer_of a.pass a.out.now)
    (buffer_of a.pass c.put.new.out) c.put.result (f.1, f.2) put.verdict_value put.writer_after put.out_after)
