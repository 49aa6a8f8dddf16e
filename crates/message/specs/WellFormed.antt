-- SPEC 3.9: the ranges that a message can carry: refusal 9 does not meet their bounds, and their parts have the sizes that the format gives them.
use Rattle.std.specs.Prelude.{ℕ, ◌-◌, ◌^◌, ◌<◌, ◌≤◌, ◌≡◌, List, [], ◌∷◌, length}
use Rattle.message.specs.Bound.{Bound, infinity, finite, key, start}
use Rattle.message.specs.Message.{Payload, skip, fingerprint, ids, Range, range}

abbrev pub All : {A : Type 0} → (A → Type 0) → List A → Type 0
All P [] = Unit {0}
All P (a ∷ l) = P a × All P l

abbrev pub Bytes : List ℕ → Type 0
Bytes = All (λ (b : ℕ). b < 256)

abbrev pub Sized : ℕ → List ℕ → Type 0
Sized n l = (length l ≡ n) × Bytes l

-- 9, save for the order
abbrev pub LawfulBound : Bound → Type 0
LawfulBound infinity = Unit {0}
LawfulBound (finite t p) = (t ≤ 2 ^ 64 - 2) × (length p ≤ 32) × Bytes p

abbrev pub LawfulPayload : Payload → Type 0
LawfulPayload skip = Unit {0}
LawfulPayload (fingerprint f) = Sized 16 f
LawfulPayload (ids l) = (length l < 2 ^ 64) × All (Sized 32) l

-- each bound is lawful and above the one before it
abbrev pub Rising : Bound → List Range → Type 0
Rising lower [] = Unit {0}
Rising lower (range u p ∷ rs) = (key lower < key u) × LawfulBound u × LawfulPayload p × Rising u rs

abbrev pub WellFormed : List Range → Type 0
WellFormed = Rising start
