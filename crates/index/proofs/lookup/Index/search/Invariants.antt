use Prim.Native.Nat.{◌-◌}
use Rattle.message.specs.Bound.{big_endian}
use Rattle.index.proofs.Finding.{Between}
use Rattle.index.proofs.lookup.Index.search.Given as goal

abbrev pub invariant-loop-lo : goal.invariant-loop-lo
invariant-loop-lo l = Between l.self.ids.now l.self.pos.now l.self.n (big_endian 32 l.id) l.lo l.hi

abbrev pub decreases-loop-lo : goal.decreases-loop-lo
decreases-loop-lo l = l.hi - l.lo
