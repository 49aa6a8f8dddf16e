-- For contracts of private functions, and of functions that only our own crates call: the ranges that are left at a cursor.
use Rattle.std.specs.Prelude.{Result, IfOk, ℕ, ◌≤◌, ◌≡◌, List, [], length, drop}
use denote.Ref.{Bor}
use Rattle.message.specs.Reader.{Outcome, read, refused, after}
use Rattle.message.specs.Code.{bound_of}
use Rattle.message.specs.Bound.{Bound, time, above, read_bound}
use Rattle.message.specs.Message.{Range, read_ranges}
use Rattle.message.specs.declared.Refusal.{Refusal}
use Rattle.reader.specs.Answers.{read_by, bound_read}
use Rattle.reader.specs.declared.varint.Read.{Read}
use Rattle.reader.specs.declared.bound.UpperBound.{UpperBound}
use Rattle.reader.specs.declared.range.RangeCursor.{RangeCursor}

-- a prefix that was read
abbrev pub prefix_read : List ℕ → Result (Read (Bor (List ℕ))) Refusal → Outcome (List ℕ)
prefix_read m r = read_by (λ p. p.now) m r

abbrev pub PrefixPlaced : ℕ → List ℕ → Result (Read (Bor (List ℕ))) Refusal → Type 0
PrefixPlaced most m r = IfOk r (λ o. (o.next.at ≤ length m) × (length o.value.now ≤ most))

-- compared with any lower bound of the time `last`, it is the bound that is read behind it
abbrev pub BeforeOrder : ℕ → List ℕ → ℕ → Result (Read UpperBound) Refusal → Type 0
BeforeOrder last m at r = (lower : Bound) → time lower ≡ last → after (bound_read m r) (above lower) ≡ read_bound lower (drop at m)

-- ---- at a cursor

-- the bound before it
abbrev pub lower_at : RangeCursor → Bound
lower_at c = bound_of c.lower c.prefix

-- the reading of the ranges from the cursor on, and these ranges; each takes a byte at least, so the number of bytes is enough
unfoldable pub reading_at : List ℕ → RangeCursor → Outcome (List Range)
reading_at m c = read_ranges (length m) (lower_at c) (drop c.at m)

abbrev pub ranges_of : Outcome (List Range) → List Range
ranges_of (read rs rest) = rs
ranges_of (refused k) = []

abbrev pub ranges_at : List ℕ → RangeCursor → List Range
ranges_at m c = ranges_of (reading_at m c)
