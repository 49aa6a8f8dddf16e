-- SPEC 3.2: "A message is the byte 61 and then ranges. A range is its upper bound, its mode (a varint) and its payload."
use Rattle.std.specs.Prelude.{ℕ, zero, suc, cond, eqb, length}
use mathlib.Core.List.{List, [], ◌∷◌, ◌++◌, flatten}
use Rattle.message.specs.Reader.{read, refused, Reader, ◌>>=◌, give, read_bytes}
use Rattle.message.specs.Varint.{read_varint, spell_varint}
use Rattle.message.specs.Bound.{Bound, start, read_bound, spell_bound}

pub data Payload : Type 0 where
  skip : Payload
  fingerprint : List ℕ → Payload
  ids : List (List ℕ) → Payload

pub data Range : Type 0 where
  range : Bound → Payload → Range

abbrev pub upper : Range → Bound
upper (range u p) = u

-- ---- reading

-- SPEC 3.5: "32 bytes for each"
unfoldable pub read_ids : ℕ → Reader (List (List ℕ))
read_ids zero = give []
read_ids (suc n) = do
  i ← read_bytes 32
  l ← read_ids n
  give (i ∷ l)

-- SPEC 3.5: "Mode 0 is a skip and has no payload. Mode 1 is a fingerprint: 16 bytes. Mode 2 is a list of ids: their count (a varint), then 32 bytes for each."
-- SPEC 7.10: "a mode is above 2"
unfoldable pub read_of_mode : ℕ → Reader Payload
read_of_mode zero = give skip
read_of_mode (suc zero) = do
  f ← read_bytes 16
  give (fingerprint f)
read_of_mode (suc (suc zero)) = do
  n ← read_varint
  l ← read_ids n
  give (ids l)
read_of_mode (suc (suc (suc n))) = λ m. refused 10

unfoldable pub read_payload : Reader Payload
read_payload = do
  mode ← read_varint
  read_of_mode mode

-- the next range behind the bound `lower`
unfoldable pub read_range : Bound → Reader Range
read_range lower = do
  u ← read_bound lower
  p ← read_payload
  give (range u p)

abbrev pub until_end : {A : Type 0} → Reader (List A) → Reader (List A)
until_end more [] = read [] []
until_end more (b ∷ m) = more (b ∷ m)

-- The ranges up to the end of the bytes. At most f are read; each takes a byte at least, so the number of bytes is enough (`enough` in proofs/Messages.antt).
unfoldable pub read_ranges : ℕ → Bound → Reader (List Range)
read_ranges zero lower = until_end (λ m. refused 7)
read_ranges (suc f) lower = until_end (do
  r ← read_range lower
  rs ← read_ranges f (upper r)
  give (r ∷ rs))

-- SPEC 7.6: "the message is empty, or its first byte is not 61"
unfoldable pub read_message : Reader (List Range)
read_message [] = refused 6
read_message (b ∷ m) = cond (eqb b 0x61) (read_ranges (length m) start m) (refused 6)

-- ---- spelling: the bytes of these very ranges

unfoldable pub spell_payload : Payload → List ℕ
spell_payload skip = spell_varint 0
spell_payload (fingerprint f) = spell_varint 1 ++ f
spell_payload (ids l) = spell_varint 2 ++ (spell_varint (length l) ++ flatten l)

unfoldable pub spell_range : Bound → Range → List ℕ
spell_range lower (range u p) = spell_bound lower u ++ spell_payload p

unfoldable pub spell_ranges : Bound → List Range → List ℕ
spell_ranges lower [] = []
spell_ranges lower (r ∷ rs) = spell_range lower r ++ spell_ranges (upper r) rs

unfoldable pub spell_message : List Range → List ℕ
spell_message rs = 0x61 ∷ spell_ranges start rs
