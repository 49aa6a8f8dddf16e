use Rattle.index.specs.Lookup.{listed}
use Rattle.index.proofs.Setting.{SetTo}
use Rattle.index.proofs.lookup.note.Given as goal

abbrev pub invariant-loop-i : goal.invariant-loop-i
invariant-loop-i l = SetTo (listed l.list l.count l.ids) 0 l.i l.initial.found l.found
