-- `writer::part::write_range` meets its contract.
use borrow.Author.Rules.{rules}
use Rattle.writer.proofs.Sizes.{prefix-fits}
use Rattle.writer.proofs.Parts.{range-laid}
use Rattle.writer.proofs.part.write_range.Goals as goal

pub returns : goal.returns
returns c =
    let size = c.bound_size-first in
    let a = c.args in
    range-laid a.last size.result a.range a.source.now a.out.now c.write_bound.new.out c.write_payload.new.out
    size.ensures.0 (prefix-fits a.range.bound a.range.prefix c.requires.0 (search rules)) c.requires.1 c.requires.2 c.write_bound.ensures c.write_payload.ensures
