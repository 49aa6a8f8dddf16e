use Prim.Native.Nat.{ℕ}
use mathlib.Core.List.{List}
use Rattle.index.specs.Lookup.{Met}
use Rattle.index.proofs.lookup.Index.spread.Given as goal

abbrev pub invariant-loop-k : goal.invariant-loop-k
invariant-loop-k l =
    (list : List ℕ) (count : ℕ) → Met list count l.self.ids.now l.self.pos.now l.initial.found l.self.n 0 → Met list count l.self.ids.now l.self.pos.now l.found l.self.n l.k
