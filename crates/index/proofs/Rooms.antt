-- Room for an index and for what is found.
use Prim.Native.Nat.{ℕ, ◌+◌, ◌≤◌, ◌<◌}
use mathlib.Core.Path.{◌≡◌}
use mathlib.Core.List.{List}
use native.Mathlib.Omega.{arith}
use lib.ListN.{length, replicate, length-replicate}
use Rattle.index.specs.Lookup.{Room}

pub room-kept : (w p f w' p' f' : List ℕ) → Room w p f → length w' ≡ length w → length p' ≡ length p → length f' ≡ length f → Room w' p' f'
room-kept w p f w' p' f' r a b c =
    let some : 0 < length w = r.some in
    let beside : length w + length w + 1 < length p = r.beside in
    let few : length w ≤ 1048576 = r.few in
    let noted : 0 < length f = r.noted in
    record { some = omega arith; beside = omega arith; few = omega arith; noted = omega arith }

pub room_of : (a p b : ℕ) → 0 < a → a + a + 1 < p → a ≤ 1048576 → 0 < b → Room (replicate a 0) (replicate p 0) (replicate b 0)
room_of a p b h g k l =
    let e = length-replicate {A = ℕ} a 0 in
    let d = length-replicate {A = ℕ} p 0 in
    let f = length-replicate {A = ℕ} b 0 in
    record { some = rw e h; beside = rw (e, d) g; few = rw e k; noted = rw f l }
