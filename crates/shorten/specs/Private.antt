-- For contracts of functions that only our own crates call: where handing ranges over stopped, and how the message is closed.
use Rattle.std.specs.Prelude.{ℕ, zero, suc, ◌+◌, ◌-◌, ◌^◌, ◌≤◌, ◌<◌, ◌≡◌, true, false, cond, leb, List, [], ◌∷◌, ◌++◌, length, replicate}
use Rattle.message.specs.Bound.{Bound, infinity, key, start}
use Rattle.message.specs.Message.{fingerprint, ids, Range, range}
use Rattle.message.specs.Meaning.{tidy, write_message}
use Rattle.message.specs.WellFormed.{Rising}
use Rattle.message.specs.declared.Bound as B
use Rattle.writer.specs.Writing.{lower_of, more_bytes}
use Rattle.writer.specs.Private.{Lawful}
use Rattle.writer.specs.declared.write.Writer.{Writer}
use Rattle.writer.specs.Handover.{Follows}
use Rattle.table.specs.Table.{Table, items, within, ids_of}
use Rattle.table.specs.Private.{place_of}
use Rattle.cutting.specs.Cutting.{fingerprint_of}
use Rattle.cutting.specs.Private.{run, own_in, upper_of, Inside}
use Rattle.cutting.specs.declared.Span.{Span}
use Rattle.limit.specs.Limit.{bytes, largest, run_end, first_ids, sent_message}
use Rattle.shorten.specs.declared.Stop.{Stop}
use Rattle.shorten.specs.declared.Closing.{Closing}

-- The ranges `whole` were handed over, up to the first that `size` bytes do not hold: `done` were taken, `next` is that one. The stop tells the writer
-- behind `done`; the place of the last bound that is written, if a skip waits; and the span of `next`, if it lists ids.
pub record Stopped (size : ℕ) (T : Table) (whole : List Range) (s : Stop) : Type 0 where
  pub done : List Range
  pub next : Range
  pub rest : List Range
  pub splits : done ++ (next ∷ rest) ≡ whole
  pub follows : Follows done s.writer
  pub lower : run_end start done ≡ lower_of s.writer
  pub lawful : Lawful s.writer.bound
  pub small : length (write_message done) ≤ size
  pub over : size < length (write_message (done ++ (next ∷ [])))
  pub kept : s.writer.pending ≡ true → s.kept ≡ place_of (run_end start (tidy done)) (items T)
  pub timed : s.writer.pending ≡ true → s.writer.time ≤ 2 ^ 64 - 2
  pub room : s.kept ≤ length T.times
  pub span : Inside T s.span
  pub listed : s.listed ≡ true → (next ≡ range (upper_of s.span) (ids (ids_of (own_in T s.span)))) × (within (lower_of s.writer) (upper_of s.span) (items T) ≡ own_in T s.span)
  pub unlisted : s.listed ≡ false → (y : Bound) × (f : List ℕ) × (next ≡ range y (fingerprint f))

-- what the code uses of it
pub record Stands (T : Table) (s : Stop) : Type 0 where
  pub lawful : Lawful s.writer.bound
  pub below : key (lower_of s.writer) < key infinity
  pub span : Inside T s.span
  pub place : s.kept ≤ length T.times
  pub own : s.listed ≡ true → within (lower_of s.writer) (upper_of s.span) (items T) ≡ own_in T s.span

-- the most ids of the range that did not fit, if it lists ids
abbrev pub kept_ids : Table → ℕ → Stop → ℕ
kept_ids T size s =
    cond s.listed
    (largest (λ k. leb (s.writer.at + length (more_bytes s.writer (first_ids (own_in T s.span) k))) size) (s.span.hi - s.span.lo - 1))
    0

-- the ranges that close a message: perhaps the first ids of a span, and the last fingerprint, of the items from a place on
abbrev pub first_of : ℕ → Table → Span → List Range
first_of zero T s = []
first_of (suc k) T s = first_ids (own_in T s) (suc k) ∷ []

abbrev pub closing_ranges : Table → Closing → List Range
closing_ranges T c = first_of c.count T c.span ++ (range infinity (fingerprint (fingerprint_of (run T c.from (length T.times)))) ∷ [])

-- the writer without the skip that waits
abbrev pub without_skip : Writer → Writer
without_skip w = record { at = w.at; time = w.time; pending = false; bound = B.Bound.At w.time 0; prefix = replicate 32 0 }

-- what is sent in at most size + 19 bytes is the ranges `begun`, which the closing's writer was handed, and those that close it; `done` take as many bytes as
-- `begun`
pub record Closes (size : ℕ) (T : Table) (whole done : List Range) (c : Closing) : Type 0 where
  pub begun : List Range
  pub follows : Follows begun c.writer
  pub same : write_message begun ≡ write_message done
  pub sent : sent_message (bytes (size + 19)) (items T) whole ≡ write_message (begun ++ closing_ranges T c)
  pub lawful : Lawful c.writer.bound
  pub rising : Rising (lower_of c.writer) (closing_ranges T c)
  pub span : Inside T c.span
  pub fewer : 0 < c.count → c.count < c.span.hi - c.span.lo
  pub place : c.from ≤ length T.times
