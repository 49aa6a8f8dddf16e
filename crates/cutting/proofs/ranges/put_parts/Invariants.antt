use Rattle.writer.specs.Stream.{before}
use Rattle.writer.specs.Handover.{writes, buffer_of}
use Rattle.table.specs.Code.{lent}
use Rattle.cutting.proofs.Parts.{PartsDone}
use Rattle.cutting.proofs.ranges.put_parts.Given as goal

abbrev pub invariant-loop-i : goal.invariant-loop-i
invariant-loop-i l =
    PartsDone (writes l.pass) (lent l.times l.own) l.parts l.span (before l.initial.writer (buffer_of l.pass l.initial.out)) l.i l.at (before l.writer (buffer_of l.pass l.out))
