-- For contracts of functions that only our own crates call: ids taken out of a list.
use Rattle.std.specs.Prelude.{ℕ, zero, suc, ◌*◌, ◌/◌, ◌%◌, ◌≤◌, ◌≡◌, cond, not, List, [], ◌∷◌, ◌++◌, map, eqb, length, take}
use Rattle.message.specs.Code.{ids_in}
use Rattle.table.specs.Lists.{keep}
use Rattle.ends.specs.Lists.{some, same}

-- the lowest n bits of a number, the lowest first
unfoldable pub bits : ℕ → ℕ → List ℕ
bits zero b = []
bits (suc n) b = b % 2 ∷ bits n (b / 2)

-- the bits of bytes
unfoldable pub bits_in : List ℕ → List ℕ
bits_in [] = []
bits_in (b ∷ bs) = bits 8 b ++ bits_in bs

-- a mark for each id of ds: 1 where it is one of the ids us
unfoldable pub named : List (List ℕ) → List (List ℕ) → List ℕ
named us ds = map (λ d. cond (some (same d) us) 1 0) ds

-- the ids whose mark is 0
unfoldable pub unmarked : List ℕ → List (List ℕ) → List (List ℕ)
unmarked [] ds = []
unmarked (m ∷ ms) [] = []
unmarked (m ∷ ms) (d ∷ ds) = cond (eqb m 0) (d ∷ unmarked ms ds) (unmarked ms ds)

-- the ids of ds without the ids us
unfoldable pub without : List (List ℕ) → List (List ℕ) → List (List ℕ)
without us ds = keep (λ d. not (some (same d) us)) ds

-- those of the ids us that are ids of ds
unfoldable pub present : List (List ℕ) → List (List ℕ) → List (List ℕ)
present us ds = keep (λ u. some (same u) ds) us

-- a bit of the bytes for each of the first `size` ids of a list, where they have room: 1 where it is one of the ids us
abbrev pub Marked : List (List ℕ) → List ℕ → ℕ → List ℕ → Type 0
Marked us list size bytes = size ≤ length bytes * 8 → take size (bits_in bytes) ≡ named us (ids_in size list)
