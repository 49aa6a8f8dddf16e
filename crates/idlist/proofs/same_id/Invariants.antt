use Prim.Native.Nat.{◌*◌}
use mathlib.Core.Path.{◌≡◌}
use lib.Dec.{ltb}
use Rattle.message.specs.Bound.{big_endian}
use Rattle.table.proofs.Words.{from}
use Rattle.idlist.proofs.same_id.Given as goal

abbrev pub invariant-loop-k : goal.invariant-loop-k
invariant-loop-k l =
    (ltb (big_endian 32 l.a) (big_endian 32 l.b) ≡ ltb (from l.a (8 * l.k)) (from l.b (8 * l.k))) × (ltb (big_endian 32 l.b) (big_endian 32 l.a) ≡ ltb (from l.b (8 * l.k)) (from l.a (8 * l.k)))
