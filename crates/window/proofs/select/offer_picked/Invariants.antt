use Prim.Native.Nat.{ℕ}
use mathlib.Core.List.{List, ◌++◌}
use Rattle.walk.specs.Adding.{without}
use Rattle.window.specs.Windows.{limits, Placed, picked_at, FoundAt, Gathering}
use Rattle.window.proofs.select.offer_picked.Given as goal

abbrev pub invariant-loop-k : goal.invariant-loop-k
invariant-loop-k l = record {
  placed : Placed l.m l.words l.pos l.n;
  offered : (o all rest : List (List ℕ)) → FoundAt o l.found l.m l.picks l.count → Gathering l.m all (without o (picked_at l.m l.picks l.count) ++ rest) (limits l.interval l.m) l.initial.pos l.initial.n
      → Gathering l.m all (without o (picked_at l.m l.picks l.k) ++ rest) (limits l.interval l.m) l.pos l.n;
}
