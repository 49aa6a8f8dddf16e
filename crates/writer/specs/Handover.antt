-- For contracts of functions of our own that hand ranges to the writer: which ranges they handed over.
use Rattle.std.specs.Prelude.{Result, ◌≡◌, Bool, true, false, cond, List, [], ◌∷◌, ◌++◌, ℕ, length, replicate}
use Rattle.message.specs.Bound.{time, start}
use Rattle.message.specs.Message.{skip, Range, range}
use Rattle.message.specs.Meaning.{tidy, write_message}
use Rattle.message.specs.Private.{waiting, last_upper}
use Rattle.message.specs.WellFormed.{All}
use Rattle.message.specs.declared.Refusal.{Refusal}
use Rattle.writer.specs.Writing.{Verdict, taken, refused, verdict_of, lower_of}
use Rattle.writer.specs.Private.{Lawful, Inside}
use Rattle.writer.specs.Stream.{Handed, meant, State, hand_over}
use Rattle.writer.specs.declared.write.Pass.{Pass}
use Rattle.writer.specs.declared.write.Writer.{Writer}

abbrev pub is_taken : Verdict → Bool
is_taken taken = true
is_taken (refused k) = false

-- whether a pass writes, and the buffer that it hands ranges over to: one of so many bytes where it only measures
abbrev pub writes : Pass → Bool
writes (Pass.Measure size) = false
writes Pass.Write = true

abbrev pub buffer_of : Pass → List ℕ → List ℕ
buffer_of (Pass.Measure size) out = replicate size 0
buffer_of Pass.Write out = out

-- The writer was handed the ranges rs: it stands behind their message, knows the time of the last bound written, and keeps their final skip.
pub record Follows (rs : List Range) (w : Writer) : Type 0 where
  pub place : w.at ≡ length (write_message rs)
  pub last : w.time ≡ time (last_upper start (tidy rs))
  pub same : w.pending ≡ false → time (lower_of w) ≡ w.time
  pub wait : waiting rs ≡ cond w.pending (range (lower_of w) skip ∷ []) []

-- what such a function answers, and the writer and the buffer afterwards
abbrev pub after : Result (Unit {0}) Refusal → Writer → List ℕ → State
after r w out = record { verdict = verdict_of r; writer = w; out = out }

-- the bound is lawful, save for the order, and the payload stands in its source
abbrev pub Fit : Handed → Type 0
Fit h = Lawful h.range.bound × Inside h.range.payload (length h.source)

-- From the state s it came to t by handing over ranges that mean `target`: all of them, or those up to the first that was refused.
pub record HandsOver (writing : Bool) (target : List Range) (s t : State) : Type 0 where
  pub handed : List Handed
  pub rest : List Range
  pub means : meant handed ++ rest ≡ target
  pub fit : All Fit handed
  pub leads : t ≡ hand_over writing s handed
  pub whole : t.verdict ≡ taken → rest ≡ []
