use Rattle.index.specs.Lookup.{Met}
use Rattle.index.proofs.lookup.Index.meet.Given as goal

abbrev pub invariant-loop-j : goal.invariant-loop-j
invariant-loop-j l = Met l.list l.j l.self.ids.now l.self.pos.now l.found l.self.n 0
