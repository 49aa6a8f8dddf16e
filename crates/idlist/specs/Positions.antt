-- For contracts of functions that only our own crates call: ids of a byte string m, by a list of places where they begin.
use Rattle.std.specs.Prelude.{ℕ, ◌+◌, ◌≤◌, ◌<◌, List, map, length, take, drop, get_or}
use Rattle.message.specs.Bound.{big_endian}

-- the ids at the first n places of pos
unfoldable pub ids_at : List ℕ → List ℕ → ℕ → List (List ℕ)
ids_at m pos n = map (λ (p : ℕ). take 32 (drop p m)) (take n pos)

-- the id at place number k of pos, as a number
unfoldable pub key_at : List ℕ → List ℕ → ℕ → ℕ
key_at m pos k = big_endian 32 (drop (get_or pos k 0) m)

-- a whole id stands at each of the first n places
abbrev pub Pointing : List ℕ → List ℕ → ℕ → Type 0
Pointing m pos n = (k : ℕ) → k < n → get_or pos k 0 + 32 ≤ length m

-- the first n ids rise strictly
abbrev pub KeysRise : List ℕ → List ℕ → ℕ → Type 0
KeysRise m pos n = (i j : ℕ) → i < j → j < n → key_at m pos i < key_at m pos j
