use mathlib.Core.Path.{◌≡◌}
use Prim.Native.Nat.{◌-◌}
use lib.ListN.{length}
use Rattle.tree.specs.Tree.{renew_above}
use Rattle.tree.specs.Private.{Above}
use Rattle.labeltree.proofs.append.renew_above.Given as goal

abbrev pub invariant-loop : goal.invariant-loop
invariant-loop l = record {
  rest : renew_above (l.levels - l.counter) l.at l.tree ≡ renew_above l.levels l.i l.initial.tree;
  above : Above (length l.tree) (l.levels - l.counter) l.at;
}
