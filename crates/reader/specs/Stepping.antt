-- SPEC 3.10: stepping a cursor from the start through a message that `check_message` has passed gives exactly its ranges: `Stepping`, the theorem
-- `stepping` in proofs/Stepping.antt.
use Rattle.std.specs.Prelude.{Result, Ok, Err, IsOk, ℕ, ◌≤◌, ◌<◌, ◌≡◌, List, [], ◌∷◌, length, take, drop, replicate}
use Rattle.message.specs.Reader.{read}
use Rattle.message.specs.Message.{Range, read_range, read_message}
use Rattle.message.specs.WellFormed.{All, Bytes}
use Rattle.message.specs.Code.{bound_of, range_of}
use Rattle.message.specs.declared.Bound.{Bound}
use Rattle.message.specs.declared.Refusal.{Refusal}
use Rattle.reader.specs.Answers.{range_read, RangePlaced}
use Rattle.reader.specs.declared.range.RangeCursor.{RangeCursor}
use Rattle.reader.specs.declared.range.RangeRead.{RangeRead}

-- before the first range: `RangeCursor::START`
unfoldable pub starts : RangeCursor
starts = record { at = 1; lower = Bound.At 0 0; prefix = replicate 32 0 }

-- r is what `RangeCursor::range` answers at c: its contract
abbrev pub ReadAt : List ℕ → RangeCursor → Result RangeRead Refusal → Type 0
ReadAt m c r = (range_read m r ≡ read_range (bound_of c.lower c.prefix) (drop c.at m)) × RangePlaced m r

-- where a read at c leaves the cursor: one that is refused does not move it
abbrev pub behind : RangeCursor → Result RangeRead Refusal → RangeCursor
behind c (Ok r) = r.next
behind c (Err k) = c

-- reads in turn: the first at c, each other where the one before left the cursor
abbrev pub InTurn : List ℕ → RangeCursor → List (Result RangeRead Refusal) → Type 0
InTurn m c [] = Unit {0}
InTurn m c (r ∷ reads) = ReadAt m c r × InTurn m (behind c r) reads

-- where they leave the cursor
abbrev pub left_at : RangeCursor → List (Result RangeRead Refusal) → RangeCursor
left_at c [] = c
left_at c (r ∷ reads) = left_at (behind c r) reads

-- the ranges that they found
abbrev pub found_in : List ℕ → List (Result RangeRead Refusal) → List Range
found_in m [] = []
found_in m (Ok r ∷ reads) = range_of r.range m ∷ found_in m reads
found_in m (Err k ∷ reads) = found_in m reads

-- what reads in turn from the start come to, `ranges` being those of the message
pub record GivesRanges (m : List ℕ) (ranges : List Range) (reads : List (Result RangeRead Refusal)) : Type 0 where
  -- none is refused
  pub found : All (λ (r : Result RangeRead Refusal). IsOk r) reads
  pub in_order : found_in m reads ≡ take (length reads) ranges
  -- the cursor reaches the end with the last range and not before, so that a loop may go by either
  pub ends : length reads ≡ length ranges → (left_at starts reads).at ≡ length m
  pub goes_on : length reads < length ranges → (left_at starts reads).at < length m

-- however many of them are read
abbrev pub Stepping : Type 0
Stepping =
    (m : List ℕ) (ranges : List Range) → Bytes m → read_message m ≡ read ranges []
    → (reads : List (Result RangeRead Refusal)) → InTurn m starts reads → length reads ≤ length ranges → GivesRanges m ranges reads
