-- `writer::part::write_ids` meets its contract.
use native.Mathlib.Omega.{arith}
use Rattle.writer.proofs.Parts.{ids-laid}
use Rattle.writer.proofs.part.write_ids.Goals as goal

pub returns : goal.returns
returns c =
    let a = c.args in
    let w = c.width-first in
    ids-laid a.count a.at _ w.result a.source.now a.out.now c.write_varint.new.out c.copy_bytes.new.out (omega arith) w.ensures c.requires.0 (omega (arith, w.ensures, c.requires.1))
    c.write_varint.ensures.out_after c.copy_bytes.ensures
