-- `cutting::ranges::put_ids` meets its contract.
use native.Mathlib.Omega.{arith}
use Rattle.writer.specs.Handover.{writes, buffer_of}
use Rattle.writer.proofs.Handover.{hands-put}
use Rattle.table.specs.Code.{lent}
use Rattle.table.proofs.Items.{right_size, ids-run}
use Rattle.cutting.proofs.Parts.{listing, listing-inside}
use Rattle.cutting.proofs.ranges.put_ids.Goals as goal

pub overflow_mul-range : goal.overflow_mul-range
overflow_mul-range c =
    let r = right_size (lent c.args.times.now c.args.own.now) c.requires.0.0 in
    omega arith

pub returns : goal.returns
returns c =
    let a = c.args in
    let i = c.requires.1 in
    let put = c.put.ensures in
    rw (ids-run (lent a.times.now a.own.now) a.span.lo a.span.hi i.1)
    (hands-put (writes a.pass) (listing a.span a.own.now) a.writer.now c.put.new.self (buffer_of a.pass a.out.now) (buffer_of a.pass c.put.new.out) c.put.result (i.2, listing-inside (lent a.times.now a.own.now) c.requires.0 a.span i.0 i.1) put.verdict_value put.writer_after put.out_after)
