use Rattle.message.specs.WellFormed.{Bytes}
use Rattle.removal.specs.Removing.{bits_in}
use Rattle.removal.proofs.Removing.{Keeping}
use Rattle.removal.proofs.keep_unmarked.Given as goal

abbrev pub invariant-loop-k : goal.invariant-loop-k
invariant-loop-k l = Bytes l.initial.list × Keeping l.initial.list l.initial.kept l.lo l.count (bits_in l.marks) l.list l.kept l.k
