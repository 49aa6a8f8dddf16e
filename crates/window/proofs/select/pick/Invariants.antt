use Prim.Native.Nat.{ℕ, ◌+◌, ◌≤◌}
use mathlib.Core.List.{List, ◌++◌}
use Rattle.walk.specs.Adding.{without}
use Rattle.window.specs.Windows.{limits, picked_at, Picked, Gathering}
use Rattle.window.proofs.Selecting.{others_from}
use Rattle.window.proofs.select.pick.Given as goal

abbrev pub invariant-loop-next : goal.invariant-loop-next
invariant-loop-next l = record {
  few : l.start + l.k ≤ l.next;
  picked : Picked l.m l.ids l.picks l.k;
  left : (o all rest : List (List ℕ)) → Gathering l.m all (others_from o l.m l.at l.count l.start ++ rest) (limits l.interval l.m) l.pos l.n
      → Gathering l.m all (without o (picked_at l.m l.picks l.k) ++ (others_from o l.m l.at l.count l.next ++ rest)) (limits l.interval l.m) l.pos l.n;
}
