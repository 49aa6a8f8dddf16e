-- `writer::write::Writer::more_size` meets its contract.
use mathlib.Core.Path.{sym, ap, ◌∙◌}
use native.Mathlib.Omega.{arith}
use lib.ListN.{length}
use borrow.Author.Rules.{rules}
use Rattle.writer.proofs.Steps.{more-skip, more-length}
use Rattle.writer.proofs.write.Writer.more_size.Goals as goal

pub returns-then-is_skip : goal.returns-then-is_skip
returns-then-is_skip c =
    let a = c.args in
    sym (ap length (more-skip a.self a.range a.source.now (sym c.is_skip.ensures ∙ c.if-is_skip.true)))

pub returns : goal.returns
returns c =
    let a = c.args in
    let size = more-length a.self a.range a.source.now _ c.time.ensures (sym c.is_skip.ensures ∙ c.if-is_skip.false) c.requires.1 (search rules) c.requires.2 in
    omega arith
