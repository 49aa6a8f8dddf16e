use Prim.Native.Nat.{ℕ, ◌-◌, ◌*◌, ◌≤◌}
use mathlib.Core.List.{List, ◌++◌}
use lib.ListN.{drop}
use Rattle.message.specs.Code.{ids_in}
use Rattle.cutting.specs.declared.Span.{Span}
use Rattle.walk.specs.Adding.{others}
use Rattle.window.specs.Windows.{limits, Placed, Gathering}
use Rattle.window.proofs.Selecting.{others_from}
use Rattle.window.proofs.select.gather_list.Given as goal

-- the own ids of the span
abbrev pub owns : List ℕ → Span → List (List ℕ)
owns own span = ids_in (span.hi - span.lo) (drop (span.lo * 32) own)

abbrev pub invariant-loop-i : goal.invariant-loop-i
invariant-loop-i l = record {
  few : l.i ≤ l.count;
  placed : Placed l.m l.words l.pos l.n;
  offered : (all later : List (List ℕ)) → Gathering l.m all (others l.own l.span (ids_in l.count (drop l.at l.m)) ++ later) (limits l.interval l.m) l.initial.pos l.initial.n
      → Gathering l.m all (others_from (owns l.own l.span) l.m l.at l.count l.i ++ later) (limits l.interval l.m) l.pos l.n;
}

abbrev pub decreases-loop-i : goal.decreases-loop-i
decreases-loop-i l = l.count - l.i
