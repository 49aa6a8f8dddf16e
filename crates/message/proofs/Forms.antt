-- Bounds and payloads in the form of the code.
use Prim.Native.Nat.{ℕ, zero, suc}
use mathlib.Core.Path.{◌≡◌, refl, ap}
use mathlib.Core.List.{List, []}
use lib.ListN.{length, drop}
use Rattle.message.specs.Bound.{finite, time, prefix, key}
use Rattle.message.specs.Code.{bound_of, ids_in}
use Rattle.message.specs.declared.Bound.{Bound}
use Rattle.message.proofs.Order.{key-parts}

-- the bytes beside a bound do not tell its time
pub time_alone : (b : Bound) (p q : List ℕ) → time (bound_of b p) ≡ time (bound_of b q)
time_alone Bound.Infinity p q = refl
time_alone (Bound.At t len) p q = refl

-- the key that the code compares
pub key_is : (b : Bound) (beside : List ℕ) (t : ℕ) (p : List ℕ) → t ≡ time (bound_of b []) → p ≡ prefix (bound_of b beside) → key (finite t p) ≡ key (bound_of b beside)
key_is b beside t p et ep = rw (et, time_alone b [] beside, ep) (key-parts (bound_of b beside))

pub ids-count : (n : ℕ) (m : List ℕ) → length (ids_in n m) ≡ n
unfolding ids_in
ids-count zero m = refl
ids-count (suc n) m = ap suc (ids-count n (drop 32 m))
