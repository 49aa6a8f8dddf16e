use Prim.Native.Nat.{ℕ, ◌*◌, ◌<◌}
use mathlib.Core.Path.{◌≡◌}
use lib.ListN.{drop, get_or}
use Rattle.message.specs.Bound.{big_endian}
use Rattle.index.proofs.lookup.fill.Given as goal

abbrev pub invariant-loop-i : goal.invariant-loop-i
invariant-loop-i l =
    ((k : ℕ) → k < l.i → get_or l.pos k 0 ≡ k * 32) × ((k : ℕ) → k < l.i → get_or l.words k 0 ≡ big_endian 8 (drop (k * 32) l.list))
