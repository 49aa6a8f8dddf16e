-- What the values of the code's types mean.
use Rattle.std.specs.Prelude.{ℕ, zero, suc, List, [], ◌∷◌, take, drop}
use Rattle.message.specs.Bound as B
use Rattle.message.specs.Message as M
use Rattle.message.specs.declared.Refusal.{Refusal}
use Rattle.message.specs.declared.Bound.{Bound}
use Rattle.message.specs.declared.Payload.{Payload}
use Rattle.message.specs.declared.Range.{Range}

-- the number that each refusal has under SPEC 7, "Refusals, in checking order"
abbrev pub number_of : Refusal → ℕ
number_of Refusal.WrongVersion = 6
number_of Refusal.Truncated = 7
number_of Refusal.BadVarint = 8
number_of Refusal.BadBound = 9
number_of Refusal.BadMode = 10
number_of Refusal.NoRoom = 12

-- a bound and the bytes beside it: those behind the length do not count
abbrev pub bound_of : Bound → List ℕ → B.Bound
bound_of Bound.Infinity p = B.infinity
bound_of (Bound.At t len) p = B.finite t (take len p)

-- the prefix length that a bound says it has
abbrev pub length_of : Bound → ℕ
length_of Bound.Infinity = 0
length_of (Bound.At t len) = len

-- n ids, 32 bytes each
unfoldable pub ids_in : ℕ → List ℕ → List (List ℕ)
ids_in zero l = []
ids_in (suc n) l = take 32 l ∷ ids_in n (drop 32 l)

-- a payload and the bytes that hold it
abbrev pub payload_of : Payload → List ℕ → M.Payload
payload_of Payload.Skip m = M.skip
payload_of (Payload.Fingerprint at) m = M.fingerprint (take 16 (drop at m))
payload_of (Payload.Ids count at) m = M.ids (ids_in count (drop at m))

-- a range and the bytes that hold its payload
abbrev pub range_of : Range → List ℕ → M.Range
range_of r m = M.range (bound_of r.bound r.prefix) (payload_of r.payload m)
