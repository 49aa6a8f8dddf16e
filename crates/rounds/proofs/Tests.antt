-- Bytes, and one time for each id, as tests that compute.
use mathlib.Core.Path.{◌≡◌}
use mathlib.Core.Bool.{Bool, true, not, ◌||◌}
use mathlib.Core.List.{List, [], ◌∷◌, Memᴰ}
use Prim.Native.Nat.{ℕ}
use lib.Dec.{ltb, eqb}
use borrow.Author.Tests.{ltb-true, eqb-true}
use Rattle.message.specs.WellFormed.{Bytes}
use Rattle.theory.proofs.Tests.{and_left, and_right}
use Rattle.table.specs.Lists.{every}
use Rattle.table.specs.Table.{Item}
use Rattle.ends.specs.Lists.{same}
use Rattle.ends.specs.Demand.{OneTime}
use Rattle.ends.proofs.Reports.{same_refl}

pub all_bytes : (l : List ℕ) → every (λ b. ltb b 256) l ≡ true → Bytes l
unfolding every
all_bytes [] h = tt
all_bytes (b ∷ l) h = (ltb-true b 256 (and_left (ltb b 256) (every (λ c. ltb c 256) l) h), all_bytes l (and_right (ltb b 256) (every (λ c. ltb c 256) l) h))

every_mem : {X : Type 0} (p : X → Bool) (l : List X) {x : X} → every p l ≡ true → Memᴰ x l → p x ≡ true
unfolding every
every_mem p [] h m = elim m [ ]
every_mem p (y ∷ l) h (Memᴰ.head e) = rw e (and_left (p y) (every p l) h)
every_mem p (y ∷ l) h (Memᴰ.tail m) = every_mem p l (and_right (p y) (every p l) h) m

-- items with the same id have the same time
abbrev pub agree : Item → Item → Bool
agree i j = not (same i.id j.id) || eqb i.time j.time

pub one_time : (is : List Item) → every (λ i. every (agree i) is) is ≡ true → OneTime is
one_time is h i j mi mj e =
    let t : agree i j ≡ true = every_mem (agree i) is (every_mem (λ i. every (agree i) is) is h mi) mj in
    eqb-true i.time j.time (rw (e, same_refl j.id) at t)
