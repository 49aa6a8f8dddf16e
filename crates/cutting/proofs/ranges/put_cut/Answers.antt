-- `cutting::ranges::put_cut` meets its contract.
use native.Mathlib.Omega.{arith}
use borrow.Author.Tests.{le-leb, lt-leb}
use Rattle.table.specs.Code.{lent}
use Rattle.cutting.specs.Cutting.{cut}
use Rattle.cutting.specs.Code.{cut_of}
use Rattle.cutting.proofs.Limits.{within-limits}
use Rattle.cutting.proofs.Parts.{own-length}
use Rattle.cutting.proofs.ranges.put_cut.Goals as goal

pub returns-then-span-cut : goal.returns-then-span-cut
unfolding cut
returns-then-span-cut c =
    rw (own-length (lent c.args.times.now c.args.own.now) c.args.span c.requires.1, le-leb _ _ c.if-span-cut.true) c.put_ids.ensures

pub put_parts-requires : goal.put_parts-requires
put_parts-requires c =
    let l = within-limits (cut_of c.args.cut) c.requires.2 in
    (c.requires.0, c.requires.1, omega arith, omega arith)

pub returns-else-span-cut : goal.returns-else-span-cut
unfolding cut
returns-else-span-cut c =
    rw (own-length (lent c.args.times.now c.args.own.now) c.args.span c.requires.1, lt-leb _ _ c.if-span-cut.false) c.put_parts.ensures
