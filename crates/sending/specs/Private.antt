-- For contracts of functions that only our own crates call: what is sent, and where a message stops.
use Rattle.std.specs.Prelude.{Option, Some, None, Result, ℕ, ◌≡◌, Bool, false, cond, List, leb, length, replicate}
use Rattle.message.specs.Message.{Range}
use Rattle.message.specs.declared.Bound.{Bound}
use Rattle.message.specs.declared.Payload.{Payload}
use Rattle.reader.specs.Private.{ranges_at}
use Rattle.theory.specs.Rounds.{Cut}
use Rattle.table.specs.Table.{Item, Table, items}
use Rattle.table.specs.Code.{answer_of}
use Rattle.table.specs.declared.Refusal.{Refusal}
use Rattle.cutting.specs.declared.Span.{Span}
use Rattle.ends.specs.Calls.{result}
use Rattle.ends.specs.Responder.{reply, send}
use Rattle.ends.specs.Opener.{first_query, next_query}
use Rattle.walk.specs.Walking.{starts, Walking}
use Rattle.sending.specs.declared.Kind.{Kind}

-- ---- what is sent

-- the ranges of a message of this kind; those of the other's message play no part in the first query
abbrev pub ranges_of : Kind → Cut → List Item → List Range → List Range
ranges_of Kind.FirstQuery c T rs = first_query c T
ranges_of Kind.Answer c T rs = reply c T rs
ranges_of Kind.NextQuery c T rs = next_query c T rs

abbrev pub to_send : Kind → Cut → Table → List ℕ → List Range
to_send kind c T m = ranges_of kind c (items T) (ranges_at m starts.cursor)

-- the other's message was checked, where it counts
abbrev pub Walks : Kind → Table → List ℕ → Type 0
Walks Kind.FirstQuery T m = Unit {0}
Walks Kind.Answer T m = Walking T m starts
Walks Kind.NextQuery T m = Walking T m starts

-- a call that was lent the buffer `before` to send this message answered r, the length of the message, and left `after`
abbrev pub Sends : List ℕ → List ℕ → Result ℕ Refusal → List ℕ → Type 0
Sends message before r after = result before (send message before) ≡ record { answer = answer_of r; lent = after }

-- the length of a message, if it has at most `size` bytes
abbrev pub length_within : List ℕ → ℕ → Option ℕ
length_within message size = cond (leb (length message) size) (Some (length message)) None

-- ---- where a message stops

-- the whole range of a table of n items, up to infinity
abbrev pub whole : ℕ → Span
whole n = record { lo = 0; hi = n; bound = Bound.Infinity; prefix = replicate 32 0 }

-- whether a range of the other's message, with so many own items there, becomes all own ids there, unless it becomes a skip
abbrev pub lists_own : Bool → ℕ → ℕ → Payload → Bool
lists_own listing limit count Payload.Skip = false
lists_own listing limit count (Payload.Fingerprint at) = leb count limit
lists_own listing limit count (Payload.Ids n at) = listing
