-- `cutting::part_size` meets its contract.
use mathlib.Core.Path.{sym}
use Rattle.cutting.proofs.Sizes.{size_larger, size-smaller}
use Rattle.cutting.proofs.part_size.Goals as goal

pub returns-then-i-b : goal.returns-then-i-b
returns-then-i-b c = sym (size-smaller c.args.b c.args.c c.args.i c.if-i-b.true)

pub returns-else-i-b : goal.returns-else-i-b
returns-else-i-b c = sym (size_larger c.args.b c.args.c c.args.i c.if-i-b.false c.requires.0)
