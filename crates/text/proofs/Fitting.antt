-- The text of a message fits: no range has more than ten bytes of text for each of its own.
use Prim.Native.Nat.{ℕ, zero, suc, ◌+◌, ◌*◌, ◌≤◌, ◌/◌, ◌%◌}
use mathlib.Core.Path.{◌≡◌, refl, ap}
use mathlib.Core.List.{List, [], ◌∷◌, ◌++◌, flatten}
use native.Mathlib.Omega.{arith}
use lib.Dec.{ltb}
use lib.ListN.{length, length-append}
use borrow.Author.Tests.{ltb-false}
use Rattle.message.specs.Reader.{Outcome, read, refused}
use Rattle.message.specs.Varint.{spell_varint}
use Rattle.message.specs.Bound.{Bound, infinity, finite, prefix, start, time_code, spell_prefix, spell_bound}
use Rattle.message.specs.Message.{Payload, skip, fingerprint, ids, Range, range, read_message, spell_payload, spell_range, spell_ranges, spell_message}
use Rattle.message.specs.WellFormed.{Bytes, LawfulPayload, Rising}
use Rattle.message.proofs.Exact.{by_test}
use Rattle.message.proofs.Varints.{spell_length}
use Rattle.message.proofs.Messages.{message-back}
use Rattle.text.specs.Text.{space, newline, too_long, digit, decimal_up_to, decimal, hex, time_field, prefix_field, payload_field, line, refusal_line, lines, printed, shown, room, ShownFits}
use Rattle.text.specs.Private.{payload_fields}
use Rattle.text.proofs.Putting.{length-hex}

-- ---- fields

digits_short : (f n : ℕ) → length (decimal_up_to f n) ≤ f
unfolding decimal_up_to
digits_short zero n = omega arith
digits_short (suc f) n =
    by_test (ltb n 10)
    (λ e. rw e (omega arith))
    (λ e. rw (e, length-append (decimal_up_to f (n / 10)) (digit (n % 10) ∷ [])) (omega (arith, digits_short f (n / 10))))

pub decimal_short : (n : ℕ) → length (decimal n) ≤ 20
unfolding decimal
decimal_short n = digits_short 20 n

time_short : (u : Bound) → length (time_field u) ≤ 20
unfolding time_field
time_short infinity = omega arith
time_short (finite t p) = decimal_short t

prefix_short : (p : List ℕ) → length (prefix_field p) ≤ 1 + 2 * length p
unfolding prefix_field
prefix_short [] = omega arith
prefix_short (b ∷ p) = omega (arith, length-hex (b ∷ p))

some-digit : (v : ℕ) → 1 ≤ length (spell_varint v)
some-digit v = omega (arith, spell_length v)

bound-long : (lower u : Bound) → 2 + length (prefix u) ≤ length (spell_bound lower u)
unfolding spell_bound spell_prefix
bound-long lower u =
    omega (
      arith,
      some-digit (time_code lower u),
      some-digit (length (prefix u)),
      length-append (spell_varint (time_code lower u)) (spell_varint (length (prefix u)) ++ prefix u),
      length-append (spell_varint (length (prefix u))) (prefix u),
    )

one-digit : length (decimal 0) ≡ 1
unfolding decimal decimal_up_to
one-digit = refl

payload_short : (p : Payload) → LawfulPayload p → length (payload_fields p) + 3 ≤ 10 * length (spell_payload p)
unfolding payload_fields payload_field spell_payload flatten
payload_short skip h = omega (arith, some-digit 0)
payload_short (fingerprint f) h =
    omega (
      arith,
      h.0,
      length-hex f,
      length-append (hex f) (newline ∷ []),
      some-digit 1,
      length-append (spell_varint 1) f,
    )
payload_short (ids []) h =
    omega (
      arith,
      one-digit,
      length-append (decimal 0) (newline ∷ []),
      some-digit 2,
      some-digit 0,
      length-append (spell_varint 2) (spell_varint 0 ++ flatten {A = ℕ} []),
      length-append (spell_varint 0) (flatten {A = ℕ} []),
    )
payload_short (ids (i ∷ l)) h =
    omega (
      arith,
      h.1.0.0,
      decimal_short (suc (length l)),
      length-append (decimal (suc (length l))) (newline ∷ []),
      length-append (spell_varint 2) (spell_varint (suc (length l)) ++ (i ++ flatten l)),
      length-append (spell_varint (suc (length l))) (i ++ flatten l),
      length-append i (flatten l),
    )

-- ---- lines

line_short : (lower u : Bound) (p : Payload) → LawfulPayload p → length (line (range u p)) ≤ 10 * length (spell_range lower (range u p))
unfolding line spell_range payload_fields
line_short lower u p h =
    omega (
      arith,
      time_short u,
      prefix_short (prefix u),
      bound-long lower u,
      payload_short p h,
      length-append (time_field u) (space ∷ (prefix_field (prefix u) ++ (space ∷ payload_fields p))),
      length-append (prefix_field (prefix u)) (space ∷ payload_fields p),
      length-append (spell_bound lower u) (spell_payload p),
    )

lines_short : (lower : Bound) (rs : List Range) → Rising lower rs → length (lines rs) ≤ 10 * length (spell_ranges lower rs)
unfolding lines flatten spell_ranges
lines_short lower [] h = omega arith
lines_short lower (range u p ∷ rs) h =
    omega (
      arith,
      line_short lower u p h.2,
      lines_short u rs h.3,
      length-append (line (range u p)) (lines rs),
      length-append (spell_range lower (range u p)) (spell_ranges u rs),
    )

-- ---- the whole

refusal_short : (k : ℕ) → length (refusal_line k) ≤ 29
unfolding refusal_line
refusal_short k = omega (arith, decimal_short k, length-append (decimal k) (newline ∷ []))

spelled-length : (m : List ℕ) (rs : List Range) → m ≡ spell_message rs → length m ≡ suc (length (spell_ranges start rs))
unfolding spell_message
spelled-length m rs e = ap length e

pub printed_short : (m : List ℕ) → Bytes m → length m ≤ 65536 → length (printed (read_message m)) ≤ room
printed_short m by h = go (read_message m) refl
  where
    go : (o : Outcome (List Range)) → read_message m ≡ o → length (printed o) ≤ room
    go (read rs rest) e =
        let b = message-back m rs rest by e in
        omega (arith, lines_short start rs b.0, spelled-length m rs b.1)
    go (refused k) e = omega (arith, refusal_short k)

pub shown-fits : ShownFits
unfolding shown too_long
shown-fits m by =
    by_test (ltb 65536 (length m))
    (λ e. rw e (omega arith))
    (λ e. rw e (printed_short m by (ltb-false 65536 (length m) e)))
