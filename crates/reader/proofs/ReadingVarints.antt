-- Varints at a place of a message.
use Prim.Native.Nat.{ℕ, ◌+◌, ◌*◌, ◌%◌, ◌^◌, ◌<◌, ◌≤◌}
use mathlib.Core.Path.{◌≡◌, refl, sym, ◌∙◌}
use mathlib.Core.List.{List}
use native.Mathlib.Omega.{arith}
use native.Mathlib.Decide.{dec_le}
use native.Mathlib.Numerals.{add-one}
use lib.ListN.{length, drop, get_or, drop_of_length-le}
use lib.Seq.{drop-cons}
use borrow.Author.Tests.{lt-ltb, le-ltb, eq-eqb, ne_eqb}
use Rattle.message.specs.Reader.{read, refused}
use Rattle.message.specs.Varint.{read_digits, read_varint}

-- the digits from place i on, v being read so far
module _ (m : List ℕ) (i v : ℕ) where
  pub digits_end : length m ≤ i → read_digits v (drop i m) ≡ refused 7
  unfolding read_digits
  digits_end h = rw drop_of_length-le refl

  pub digits_past : i < length m → 2 ^ 64 ≤ v * 128 + get_or m i 0 % 128 → read_digits v (drop i m) ≡ refused 8
  unfolding read_digits
  digits_past h p = rw (drop-cons m i 0) (simp (le-ltb _ _ p))

  pub digits_last : i < length m → v * 128 + get_or m i 0 % 128 < 2 ^ 64 → get_or m i 0 < 128
      → read_digits v (drop i m) ≡ read (v * 128 + get_or m i 0 % 128) (drop (i + 1) m)
  unfolding read_digits
  digits_last h p l = rw (drop-cons m i 0, add-one) (simp (lt-ltb _ _ p, lt-ltb _ _ l))

  pub digits_more : i < length m → v * 128 + get_or m i 0 % 128 < 2 ^ 64 → 128 ≤ get_or m i 0
      → read_digits v (drop i m) ≡ read_digits (v * 128 + get_or m i 0 % 128) (drop (i + 1) m)
  unfolding read_digits
  digits_more h p l = rw (drop-cons m i 0, add-one) (simp (lt-ltb _ _ p, le-ltb _ _ l))

module _ (m : List ℕ) (i : ℕ) where
  varint_end : length m ≤ i → read_varint (drop i m) ≡ refused 7
  unfolding read_varint
  varint_end h = rw drop_of_length-le refl

  pub varint_padded : i < length m → get_or m i 0 ≡ 128 → read_varint (drop i m) ≡ refused 8
  unfolding read_varint
  varint_padded h e = rw (drop-cons m i 0) (simp (eq-eqb _ _ e))

  varint_digits : i < length m → (get_or m i 0 ≡ 128 → ⊥) → read_varint (drop i m) ≡ read_digits 0 (drop i m)
  unfolding read_varint
  varint_digits h e = rw (drop-cons m i 0) (simp (ne_eqb _ _ e))

  -- the digits of a varint that does not start with 80, and those of one that is not there
  pub varint_begins : (i < length m → get_or m i 0 ≡ 128 → ⊥) → read_varint (drop i m) ≡ read_digits 0 (drop i m)
  varint_begins h =
      elim (dec_le (i + 1) (length m)) [
        | yes k ↦ varint_digits (omega arith) (h (omega arith))
        | no k ↦ varint_end (omega arith) ∙ sym (digits_end m i 0 (omega arith))
      ]
