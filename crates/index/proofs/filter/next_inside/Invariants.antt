use Prim.Native.Nat.{ℕ, ◌*◌, ◌≤◌, ◌<◌}
use lib.ListN.{drop}
use Rattle.message.specs.Bound.{big_endian}
use Rattle.index.specs.Filter.{Outside}
use Rattle.index.proofs.filter.next_inside.Given as goal

abbrev pub invariant-loop-i : goal.invariant-loop-i
invariant-loop-i l = (k : ℕ) → l.j ≤ k → k < l.i → Outside l.low l.high (big_endian 8 (drop (k * 32) l.list))
