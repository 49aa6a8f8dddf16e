use mathlib.Core.Path.{◌≡◌}
use lib.ListN.{drop}
use lib.Dec.{ltb}
use Prim.Native.Nat.{◌-◌}
use Rattle.message.specs.Bound.{big_endian}
use Rattle.message.proofs.prefix_below.Given as goal

abbrev pub invariant-loop-i : goal.invariant-loop-i
invariant-loop-i l =
    ltb (big_endian 32 l.p) (big_endian 32 l.q) ≡ ltb (big_endian (32 - l.i) (drop l.i l.p)) (big_endian (32 - l.i) (drop l.i l.q))
