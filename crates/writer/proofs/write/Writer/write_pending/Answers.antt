-- `writer::write::Writer::write_pending` meets its contract.
use mathlib.Core.Path.{sym}
use native.Mathlib.Omega.{arith}
use borrow.Author.Rules.{rules}
use Rattle.writer.proofs.Laying.{lay-fits}
use Rattle.writer.proofs.Steps.{pending_none, pending_is, pending_length}
use Rattle.writer.proofs.write.Writer.write_pending.Goals as goal

pub write_range-requires : goal.write_range-requires
write_range-requires c =
    let size = pending_length c.args.self c.if-self.true c.requires.0 (search rules) in
    (c.requires.0, tt, omega (arith, size, c.requires.1))

pub returns-then-self : goal.returns-then-self
returns-then-self c = rw (pending_is c.args.self c.args.source.now c.if-self.true) c.write_range.ensures

pub returns-else-self : goal.returns-else-self
returns-else-self c = rw (pending_none c.args.self c.if-self.false) (sym (lay-fits _ _ (omega arith)))
