-- The reader of messages is exact.
use Prim.Native.Nat.{ℕ, zero, suc, ◌<◌, ◌≤◌}
use mathlib.Core.Path.{◌≡◌, refl, sym, ap, ◌∙◌}
use mathlib.Core.List.{List, [], ◌∷◌, ◌++◌, append_assoc, flatten}
use native.Mathlib.Omega.{arith}
use lib.ListN.{length, length-append}
use lib.Dec.{eqb}
use borrow.Author.Tests.{eqb-true}
use Rattle.message.specs.Reader.{read, refused, read_bytes}
use Rattle.message.specs.Varint.{read_varint, spell_varint}
use Rattle.message.specs.Bound.{Bound, start, key, read_bound}
use Rattle.message.specs.Message.{Payload, skip, fingerprint, ids, Range, range, upper, read_ids, read_of_mode, read_payload, read_range, read_ranges, read_message, spell_payload, spell_range, spell_ranges, spell_message}
use Rattle.message.specs.WellFormed.{All, Bytes, Sized, LawfulBound, LawfulPayload, Rising, WellFormed}
use Rattle.message.proofs.Exact.{Spelled, Exact, differ, got, given, same_on, passed, exact_bytes}
use Rattle.message.proofs.Varints.{exact_varint}
use Rattle.message.proofs.Bounds.{exact_bound}

-- ---- the payload

abbrev Ids : ℕ → List (List ℕ) → Type 0
Ids n l = (length l ≡ n) × All (Sized 32) l

ids-there : (l : List (List ℕ)) (rest : List ℕ) → All (Sized 32) l → read_ids (length l) (flatten l ++ rest) ≡ read l rest
unfolding read_ids flatten
ids-there [] rest h = refl
ids-there (i ∷ l) rest h = rw (append_assoc, (exact_bytes 32).reads i (flatten l ++ rest) h.0, ids-there l rest h.1)

ids-back : (n : ℕ) (m : List ℕ) (l : List (List ℕ)) (rest : List ℕ) → Bytes m → read_ids n m ≡ read l rest → Spelled flatten (Ids n) m l rest
unfolding read_ids flatten
ids-back zero m l rest by e = given (Spelled flatten (Ids 0) m) e (record { sound = (refl, tt); whole = refl; bytes = by })
ids-back (suc n) m l rest by e =
    got (read_bytes 32 m) _ e λ i m₁ e₁ d.
    got (read_ids n m₁) _ d λ l' m₂ e₂ d₂.
    let b = (exact_bytes 32).spells m i m₁ by e₁ in
    let r = ids-back n m₁ l' m₂ b.bytes e₂ in
    given (Spelled flatten (Ids (suc n)) m) d₂
    (record { sound = (ap suc r.sound.0, (b.sound, r.sound.1)); whole = rw (append_assoc, ← r.whole) b.whole; bytes = r.bytes })

payload-there : (p : Payload) (rest : List ℕ) → LawfulPayload p → read_payload (spell_payload p ++ rest) ≡ read p rest
unfolding read_payload read_of_mode spell_payload
payload-there skip rest h = rw (exact_varint.reads 0 rest (omega arith))
payload-there (fingerprint f) rest h = rw (append_assoc, exact_varint.reads 1 (f ++ rest) (omega arith), (exact_bytes 16).reads f rest h)
payload-there (ids l) rest h =
    rw (
      append_assoc,
      append_assoc,
      exact_varint.reads 2 (spell_varint (length l) ++ (flatten l ++ rest)) (omega arith),
      exact_varint.reads (length l) (flatten l ++ rest) h.0,
      ids-there l rest h.1,
    )

mode_back : (mode : ℕ) (m n : List ℕ) (p : Payload) (rest : List ℕ) → n ≡ spell_varint mode ++ m → Bytes m → read_of_mode mode m ≡ read p rest → Spelled spell_payload LawfulPayload n p rest
unfolding read_of_mode spell_payload
mode_back zero m n p rest w by e = given (Spelled spell_payload LawfulPayload n) e (record { sound = tt; whole = w; bytes = by })
mode_back (suc zero) m n p rest w by e =
    got (read_bytes 16 m) _ e λ f m₁ e₁ d.
    let b = (exact_bytes 16).spells m f m₁ by e₁ in
    given (Spelled spell_payload LawfulPayload n) d (record { sound = b.sound; whole = rw (append_assoc, ← b.whole) w; bytes = b.bytes })
mode_back (suc (suc zero)) m n p rest w by e =
    got (read_varint m) _ e λ c m₁ e₁ d.
    got (read_ids c m₁) _ d λ l m₂ e₂ d₂.
    let v = exact_varint.spells m c m₁ by e₁ in
    let r = ids-back c m₁ l m₂ v.bytes e₂ in
    given (Spelled spell_payload LawfulPayload n) d₂
    (record { sound = (rw r.sound.0 v.sound, r.sound.1); whole = rw (append_assoc, append_assoc, r.sound.0, ← r.whole, ← v.whole) w; bytes = r.bytes })
mode_back (suc (suc (suc k))) m n p rest w by e = differ (cc)

pub exact_payload : Exact read_payload spell_payload LawfulPayload
unfolding read_payload
exact_payload = record {
  reads = payload-there;
  spells = λ m p rest by e.
      got (read_varint m) _ e λ mode m₁ e₁ d.
      let v = exact_varint.spells m mode m₁ by e₁ in
      mode_back mode m₁ m p rest v.whole v.bytes d;
}

-- ---- the range

abbrev pub LawfulRange : Bound → Range → Type 0
LawfulRange lower (range u p) = (key lower < key u) × LawfulBound u × LawfulPayload p

range-there : (lower : Bound) (r : Range) (rest : List ℕ) → LawfulRange lower r → read_range lower (spell_range lower r ++ rest) ≡ read r rest
unfolding read_range spell_range
range-there lower (range u p) rest h = rw (append_assoc, (exact_bound lower).reads u (spell_payload p ++ rest) (h.0, h.1), exact_payload.reads p rest h.2)

pub exact_range : (lower : Bound) → Exact (read_range lower) (spell_range lower) (LawfulRange lower)
unfolding read_range spell_range
exact_range lower = record {
  reads = range-there lower;
  spells = λ m r rest by e.
      got (read_bound lower m) _ e λ u m₁ e₁ d.
      got (read_payload m₁) _ d λ p m₂ e₂ d₂.
      let s = (exact_bound lower).spells m u m₁ by e₁ in
      let q = exact_payload.spells m₁ p m₂ s.bytes e₂ in
      given (Spelled (spell_range lower) (LawfulRange lower) m) d₂
      (record { sound = (s.sound.0, s.sound.1, q.sound); whole = rw (append_assoc, ← q.whole) s.whole; bytes = q.bytes });
}

-- ---- the ranges up to the end

-- nothing is no range
no-range : (lower : Bound) → read_range lower [] ≡ refused 7
unfolding read_range read_bound read_varint
no-range lower = refl

-- a range takes a byte
takes : (lower : Bound) (r : Range) → LawfulRange lower r → 1 ≤ length (spell_range lower r)
takes lower r h = by (spell_range lower r) ((exact_range lower).reads r [] h)
  where
    by : (s : List ℕ) → read_range lower (s ++ []) ≡ read r [] → 1 ≤ length s
    by [] e = let z = sym (no-range lower) ∙ e in differ (cc)
    by (b ∷ m) e = omega arith

pub range_shorter : (lower : Bound) (m : List ℕ) (r : Range) (rest : List ℕ) → Bytes m → read_range lower m ≡ read r rest → (length rest < length m) × Bytes rest
range_shorter lower m r rest by e =
    let s = (exact_range lower).spells m r rest by e in
    (omega (arith, takes lower r s.sound, length-append (spell_range lower r) rest, ap length s.whole), s.bytes)

-- f never decides: any f that is not below the number of bytes gives the same
pub enough : (f g : ℕ) (lower : Bound) (m : List ℕ) → Bytes m → length m ≤ f → length m ≤ g → read_ranges f lower m ≡ read_ranges g lower m
unfolding read_ranges
enough zero zero lower m by h k = refl
enough zero (suc g) lower [] by h k = refl
enough zero (suc g) lower (b ∷ m) by h k = absurd (omega arith)
enough (suc f) zero lower [] by h k = refl
enough (suc f) zero lower (b ∷ m) by h k = absurd (omega arith)
enough (suc f) (suc g) lower [] by h k = refl
enough (suc f) (suc g) lower (b ∷ m) by h k =
    same_on (read_range lower (b ∷ m)) _ _ λ r rest e.
    let less = range_shorter lower (b ∷ m) r rest by e in
    rw (enough f g (upper r) rest less.1 (omega arith) (omega arith))

-- where bytes are left, reading goes on
one_more : (f : ℕ) (lower : Bound) (m : List ℕ) (r : Range) (rest : List ℕ) (rs : List Range) → 1 ≤ length m → read_range lower m ≡ read r rest
    → read_ranges f (upper r) rest ≡ read rs [] → read_ranges (suc f) lower m ≡ read (r ∷ rs) []
unfolding read_ranges
one_more f lower [] r rest rs h e g = absurd (omega arith)
one_more f lower (b ∷ m) r rest rs h e g = rw (e, g) refl

pub ranges-there : (f : ℕ) (lower : Bound) (rs : List Range) → Rising lower rs → length (spell_ranges lower rs) ≤ f → read_ranges f lower (spell_ranges lower rs) ≡ read rs []
unfolding read_ranges spell_ranges
ranges-there zero lower [] h l = refl
ranges-there (suc f) lower [] h l = refl
ranges-there zero lower (range u p ∷ rs) h l =
    absurd (omega (arith, length-append (spell_range lower (range u p)) (spell_ranges u rs), takes lower (range u p) (h.0, h.1, h.2)))
ranges-there (suc f) lower (range u p ∷ rs) h l =
    let one : 1 ≤ length (spell_range lower (range u p)) = takes lower (range u p) (h.0, h.1, h.2) in
    let size = length-append (spell_range lower (range u p)) (spell_ranges u rs) in
    one_more f lower (spell_range lower (range u p) ++ spell_ranges u rs) (range u p) (spell_ranges u rs) rs (omega arith)
    ((exact_range lower).reads (range u p) (spell_ranges u rs) (h.0, h.1, h.2)) (ranges-there f u rs h.3 (omega arith))

rising : (lower : Bound) (r : Range) (rs : List Range) → LawfulRange lower r → Rising (upper r) rs → Rising lower (r ∷ rs)
rising lower (range u p) rs g h = (g.0, g.1, g.2, h)

pub ranges-back : (f : ℕ) (lower : Bound) (m : List ℕ) (rs : List Range) (rest : List ℕ) → Bytes m → read_ranges f lower m ≡ read rs rest
    → Rising lower rs × (m ≡ spell_ranges lower rs) × (rest ≡ [])
unfolding read_ranges spell_ranges
ranges-back zero lower [] rs rest by e = given (λ (rs : List Range) (rest : List ℕ). Rising lower rs × ([] ≡ spell_ranges lower rs) × (rest ≡ [])) e (tt, refl, refl)
ranges-back (suc f) lower [] rs rest by e = given (λ (rs : List Range) (rest : List ℕ). Rising lower rs × ([] ≡ spell_ranges lower rs) × (rest ≡ [])) e (tt, refl, refl)
ranges-back zero lower (b ∷ m) rs rest by e = differ (cc)
ranges-back (suc f) lower (b ∷ m) rs rest by e =
    got (read_range lower (b ∷ m)) _ e λ r m₁ e₁ d.
    got (read_ranges f (upper r) m₁) _ d λ rs' m₂ e₂ d₂.
    let s = (exact_range lower).spells (b ∷ m) r m₁ by e₁ in
    let q = ranges-back f (upper r) m₁ rs' m₂ s.bytes e₂ in
    given (λ (rs : List Range) (rest : List ℕ). Rising lower rs × (b ∷ m ≡ spell_ranges lower rs) × (rest ≡ [])) d₂
    (rising lower r rs' s.sound q.0, rw (← q.1) s.whole, q.2)

-- ---- the message

pub message-there : (rs : List Range) → WellFormed rs → read_message (spell_message rs) ≡ read rs []
unfolding read_message spell_message
message-there rs h = ranges-there (length (spell_ranges start rs)) start rs h (omega arith)

pub message-back : (m : List ℕ) (rs : List Range) (rest : List ℕ) → Bytes m → read_message m ≡ read rs rest → WellFormed rs × (m ≡ spell_message rs) × (rest ≡ [])
unfolding read_message spell_message
message-back [] rs rest by e = differ (cc)
message-back (b ∷ m) rs rest by e =
    let h = passed (eqb b 0x61) _ _ e in
    let r = ranges-back (length m) start m rs rest by.1 h.1 in
    (r.0, rw (eqb-true b 0x61 h.0, ← r.1) refl, r.2)

-- A message is read as these ranges just when they are well formed and it is their spelling.
pub exact : (m : List ℕ) (rs : List Range) → Bytes m
    → (read_message m ≡ read rs [] → WellFormed rs × (m ≡ spell_message rs)) × (WellFormed rs × (m ≡ spell_message rs) → read_message m ≡ read rs [])
exact m rs by = (λ e. let r = message-back m rs [] by e in (r.0, r.1), λ h. rw h.1 (message-there rs h.0))

-- A message has one reading.
pub one-reading : (rs rs' : List Range) → WellFormed rs → WellFormed rs' → spell_message rs ≡ spell_message rs' → rs ≡ rs'
one-reading rs rs' h k e = cc (message-there rs h, message-there rs' k)
