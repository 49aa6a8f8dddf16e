use Prim.Native.Nat.{◌*◌}
use mathlib.Core.Path.{◌≡◌}
use lib.Dec.{ltb}
use Rattle.message.specs.Bound.{big_endian}
use Rattle.table.proofs.Words.{from}
use Rattle.table.proofs.compare.later_words_below.Given as goal

abbrev pub invariant-loop-i : goal.invariant-loop-i
invariant-loop-i l = ltb (big_endian 32 l.a) (big_endian 32 l.b) ≡ ltb (from l.a (l.i * 8)) (from l.b (l.i * 8))
