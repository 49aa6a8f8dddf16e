use Prim.Native.Nat.{◌+◌}
use mathlib.Core.Path.{◌≡◌}
use lib.ListN.{take, drop}
use Rattle.cutting.specs.Cutting.{shared}
use Rattle.cutting.proofs.between.shared_bytes.Given as goal

abbrev pub invariant-loop-k : goal.invariant-loop-k
invariant-loop-k l = shared (take 32 l.p) (take 32 l.q) ≡ l.k + shared (drop l.k (take 32 l.p)) (drop l.k (take 32 l.q))
