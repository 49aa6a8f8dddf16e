-- For contracts of functions that only our own crates call: where a walk over a message stands, and what a step does.
use Rattle.std.specs.Prelude.{ℕ, ◌≤◌, ◌<◌, ◌≡◌, List, [], ◌∷◌, length}
use Rattle.message.specs.Reader.{read}
use Rattle.message.specs.Message.{range}
use Rattle.message.specs.Code.{payload_of}
use Rattle.writer.specs.Private as writer
use Rattle.reader.specs.Private.{lower_at, reading_at, ranges_at}
use Rattle.reader.specs.Stepping as reader
use Rattle.table.specs.Table.{Table, items, within}
use Rattle.table.specs.Private.{place_of}
use Rattle.cutting.specs.Private.{own_in, upper_of, Inside}
use Rattle.walk.specs.declared.Walk.{Walk}
use Rattle.walk.specs.declared.Step.{Step}

-- before the first range
unfoldable pub starts : Walk
starts = record { cursor = reader.starts; lo = 0 }

-- the rest of the message can be read, and the bound before it has this place in the table
pub record Walking (T : Table) (m : List ℕ) (w : Walk) : Type 0 where
  pub reads : reading_at m w.cursor ≡ read (ranges_at m w.cursor) []
  pub place : w.lo ≡ place_of (lower_at w.cursor) (items T)

-- the next range is that of the span with the payload, its own items are those of the span, and the walk stands behind it
pub record Stepped (T : Table) (m : List ℕ) (w : Walk) (s : Step) : Type 0 where
  pub first : ranges_at m w.cursor ≡ range (upper_of s.span) (payload_of s.payload m) ∷ ranges_at m s.next.cursor
  pub upper : lower_at s.next.cursor ≡ upper_of s.span
  pub from : s.span.lo ≡ place_of (lower_at w.cursor) (items T)
  pub to : s.span.hi ≡ place_of (upper_of s.span) (items T)
  pub own : within (lower_at w.cursor) (upper_of s.span) (items T) ≡ own_in T s.span
  pub span : Inside T s.span
  pub payload : writer.Inside s.payload (length m)
  pub next : Walking T m s.next
  pub moved : w.cursor.at < s.next.cursor.at
  pub inside : s.next.cursor.at ≤ length m
