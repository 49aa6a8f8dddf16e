-- SPEC 15.9: sessions with approved replies.
use Rattle.std.specs.Prelude.{ℕ, ◌≡◌, true, List}
use Rattle.message.specs.WellFormed.{Bytes}
use Rattle.table.specs.Answer.{answer}
use Rattle.table.specs.Table.{Table}
use Rattle.ends.specs.AnyReplies.{TrueAndCompleteMixed}
use Rattle.judge.specs.Judge.{judged}

-- the reply "gets a yes, for the responder's table and a query" (SPEC 15.9)
abbrev pub GetsYes : Table → List ℕ → List ℕ → Type 0
GetsYes T query reply = Bytes reply × (judged T query reply ≡ answer true)

-- SPEC 15.9: "Reports are as true and complete as in 6.5 with any mix of approved replies"; "The number of queries is then not promised."
abbrev pub ApprovedReports : Type 0
ApprovedReports = TrueAndCompleteMixed GetsYes
