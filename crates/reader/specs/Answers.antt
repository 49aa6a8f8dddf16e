-- SPEC 3.10: what the reader's answers say in the words of the format's definitions, and the places that they give. A place is a number of bytes
-- from the start of the message, and the bytes from there on are what is left to be read.
use Rattle.std.specs.Prelude.{Result, Ok, Err, IfOk, ℕ, ◌+◌, ◌-◌, ◌*◌, ◌≤◌, ◌≡◌, List, [], ◌++◌, length, drop, replicate}
use Rattle.message.specs.Reader.{Outcome, read, refused}
use Rattle.message.specs.Bound as B
use Rattle.message.specs.Message as M
use Rattle.message.specs.Code.{number_of, bound_of, length_of, payload_of, range_of}
use Rattle.message.specs.declared.Refusal.{Refusal}
use Rattle.message.specs.declared.Bound.{Bound}
use Rattle.message.specs.declared.Payload.{Payload}
use Rattle.reader.specs.declared.varint.Read.{Read}
use Rattle.reader.specs.declared.bound.UpperBound.{UpperBound}
use Rattle.reader.specs.declared.range.RangeRead.{RangeRead}

-- what a read comes to, its value being seen by `view`
abbrev pub read_by : {A B : Type 0} → (A → B) → List ℕ → Result (Read A) Refusal → Outcome B
read_by view m (Ok r) = read (view r.value) (drop r.next.at m)
read_by view m (Err k) = refused (number_of k)

-- ---- varints

abbrev pub varint_read : List ℕ → Result (Read ℕ) Refusal → Outcome ℕ
varint_read m r = read_by (λ v. v) m r

abbrev pub VarintPlaced : List ℕ → Result (Read ℕ) Refusal → Type 0
VarintPlaced m r = IfOk r (λ o. o.next.at ≤ length m)

-- ---- bounds

abbrev pub bound_read : List ℕ → Result (Read UpperBound) Refusal → Outcome B.Bound
bound_read m r = read_by (λ u. bound_of u.bound u.prefix.now) m r

-- the prefix is the whole of the part
abbrev pub BoundPlaced : List ℕ → Result (Read UpperBound) Refusal → Type 0
BoundPlaced m r = IfOk r (λ o. (length o.value.prefix.now ≡ length_of o.value.bound) × (o.next.at ≤ length m) × (length_of o.value.bound ≤ 32))

-- ---- payloads

abbrev pub payload_read : List ℕ → Result (Read Payload) Refusal → Outcome M.Payload
payload_read m r = read_by (λ p. payload_of p m) m r

-- the payload's bytes stand before the place `end`
abbrev pub EndsAt : ℕ → Payload → Type 0
EndsAt end Payload.Skip = Unit {0}
EndsAt end (Payload.Fingerprint at) = at + 16 ≡ end
EndsAt end (Payload.Ids count at) = at + count * 32 ≡ end

abbrev pub PayloadPlaced : List ℕ → Result (Read Payload) Refusal → Type 0
PayloadPlaced m r = IfOk r (λ o. EndsAt o.next.at o.value × (o.next.at ≤ length m))

-- ---- ranges

abbrev pub range_read : List ℕ → Result RangeRead Refusal → Outcome M.Range
range_read m (Ok r) = read (range_of r.range m) (drop r.next.at m)
range_read m (Err k) = refused (number_of k)

-- 32 bytes: these, then zeros
unfoldable pub padded : List ℕ → List ℕ
padded p = p ++ replicate (32 - length p) 0

-- the bytes beside a bound are its prefix, then zeros
abbrev pub Kept : Bound → List ℕ → Type 0
Kept b beside = (length_of b ≤ 32) × (beside ≡ padded (B.prefix (bound_of b beside)))

abbrev pub FoundPlaced : List ℕ → RangeRead → Type 0
FoundPlaced m r =
    Kept r.range.bound r.range.prefix
    × EndsAt r.next.at r.range.payload
    × (r.next.at ≤ length m)
    × (r.next.lower ≡ r.range.bound)
    × (r.next.prefix ≡ r.range.prefix)

abbrev pub RangePlaced : List ℕ → Result RangeRead Refusal → Type 0
RangePlaced m r = IfOk r (FoundPlaced m)

-- ---- messages

abbrev pub message_read : Result ℕ Refusal → Outcome ℕ
message_read (Ok n) = read n []
message_read (Err k) = refused (number_of k)

-- how many ranges were read
abbrev pub counted : Outcome (List M.Range) → Outcome ℕ
counted (read rs rest) = read (length rs) rest
counted (refused k) = refused k
