-- `writer::part::write_fingerprint` meets its contract.
use native.Mathlib.Omega.{arith}
use Rattle.writer.proofs.Parts.{fingerprint-laid}
use Rattle.writer.proofs.part.write_fingerprint.Goals as goal

pub returns : goal.returns
returns c =
    let a = c.args in
    rw c.copy_from_slice.ensures.after (fingerprint-laid a.at _ a.source.now a.out.now (omega arith) c.requires.0 c.requires.1)
