-- SPEC 3.1: "A varint is a number from 0 to 2^64 - 1 in base 128, most significant digit first, with as few digits as possible, and with bit 7 set on every
-- byte but the last."
use Rattle.std.specs.Prelude.{ℕ, zero, suc, ◌+◌, ◌*◌, ◌/◌, ◌%◌, ◌^◌, cond, List, [], ◌∷◌, ltb, eqb}
use Rattle.message.specs.Reader.{read, refused, Reader}

-- The digits that follow, v being read so far. SPEC 7.8: "passes 2^64 - 1", SPEC 8.2: "at the byte that takes the value read so far past 2^64 - 1".
unfoldable pub read_digits : ℕ → Reader ℕ
read_digits v [] = refused 7
read_digits v (b ∷ m) = let w = v * 128 + b % 128 in cond (ltb w (2 ^ 64)) (cond (ltb b 128) (read w m) (read_digits w m)) (refused 8)

-- SPEC 7.8: "a varint starts with 80", SPEC 8.2: "A varint fails at its first byte if that is 80".
unfoldable pub read_varint : Reader ℕ
read_varint [] = refused 7
read_varint (b ∷ m) = cond (eqb b 0x80) (refused 8) (read_digits 0 (b ∷ m))

-- The digits of q with bit 7 set, at most f of them and none for 0, before the bytes m.
unfoldable pub digits_before : ℕ → ℕ → List ℕ → List ℕ
digits_before zero q m = m
digits_before (suc f) q m = cond (eqb q 0) m (digits_before f (q / 128) ((128 + q % 128) ∷ m))

-- Ten digits hold every value below 2^64.
unfoldable pub spell_varint : ℕ → List ℕ
spell_varint v = digits_before 10 (v / 128) (v % 128 ∷ [])
