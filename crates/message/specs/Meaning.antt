-- SPEC 3.9: "what it says at each place", and the form in which a message is written.
use Rattle.std.specs.Prelude.{ℕ, Bool, true, false, cond, ◌&&◌, List, [], ◌∷◌, ltb}
use Rattle.message.specs.Bound.{key}
use Rattle.message.specs.Message.{Payload, skip, fingerprint, ids, Range, range, spell_message}

-- The payload at the key k: that of the first range whose upper bound is above it. SPEC 3.6: "What follows the last bound up to infinity is a skip."
unfoldable pub payload_at : List Range → ℕ → Payload
payload_at [] k = skip
payload_at (range u p ∷ rs) k = cond (ltb k (key u)) p (payload_at rs k)

unfoldable pub is_skip : Range → Bool
is_skip (range u skip) = true
is_skip (range u (fingerprint f)) = false
is_skip (range u (ids l)) = false

-- SPEC 3.8: "Neighbouring skips are written as one with the last of their upper bounds, and a final skip is not written."
unfoldable pub prepend : Range → List Range → List Range
prepend r [] = cond (is_skip r) [] (r ∷ [])
prepend r (s ∷ rs) = cond (is_skip r && is_skip s) (s ∷ rs) (r ∷ s ∷ rs)

unfoldable pub tidy : List Range → List Range
tidy [] = []
tidy (r ∷ rs) = prepend r (tidy rs)

-- what the writer writes
unfoldable pub write_message : List Range → List ℕ
write_message rs = spell_message (tidy rs)
