-- What `Demand3`, `WhoeverOpens`, `TrueAndComplete` and `KnowsItsTable` ask for, and lists of takes on bytes that meet it: one item against another, lists of at most two
-- ids.
use Rattle.std.specs.Prelude.{◌≡◌, true, false, List, [], ◌∷◌, ◌++◌, ℕ, length, replicate}
use Rattle.message.specs.WellFormed.{Bytes}
use Rattle.theory.specs.Rounds.{to_last, Cut}
use Rattle.label.specs.Label.{empty}
use Rattle.table.specs.Answer.{Answer, answer, refused}
use Rattle.table.specs.Table.{Table, items}
use Rattle.limit.specs.Limit.{unlimited}
use Rattle.ends.specs.Opener.{Lent, opened, taken}
use Rattle.ends.specs.Converting.{Unlabelled, converted}
use Rattle.ends.specs.Takes.{lent_at, Run}
use Rattle.ends.specs.Mixed.{AnyTake, taking, Takes}
use Rattle.ends.specs.Finished.{Finished, end, NoneCollides}
use Rattle.ends.specs.Demand.{Take, Place, opening, run, Answers, HandedAnswers, OneTime, Smallest}

-- What `Demand3` asks of two tables and cuts, of L, of an opening that writes n bytes, and of the takes after it.
pub record Asked (A B : Table) (a b : Cut) (L : ℕ) (lent : Lent) (n : ℕ) (takes : List Take) : Type 0 where
  pub ours_bytes : Bytes A.ids
  pub theirs_bytes : Bytes B.ids
  pub once : OneTime (items A ++ items B)
  pub smallest : Smallest a (length A.times) L
  pub opens : (opened A a lent).answer ≡ answer n
  pub handed : HandedAnswers A B a b (opening A a lent) takes

-- ---- the list

-- the id that starts with the byte b, all others being zero
abbrev pub starting : ℕ → List ℕ
starting b = b ∷ replicate 31 0

abbrev pub ours : Table
ours = record { times = 5 ∷ []; ids = starting 0x01 }

abbrev pub theirs : Table
theirs = record { times = 6 ∷ []; ids = starting 0x02 }

abbrev pub two : Cut
two = record { parts = 2; limit = 2; odd = to_last }

-- what is lent to the opening; the needed buffer has no room yet
abbrev pub lent : Lent
lent = record { session = record { marked = 0; needed = 0; done = false; label = empty }; marks = 0xEE ∷ []; needed = []; out = replicate 40 0xEE }

-- the whole range with the opener's id, and with the responder's
abbrev pub query : List ℕ
query = 0x61 ∷ 0x00 ∷ 0x00 ∷ 0x02 ∷ 0x01 ∷ starting 0x01

abbrev pub reply : List ℕ
reply = 0x61 ∷ 0x00 ∷ 0x00 ∷ 0x02 ∷ 0x01 ∷ starting 0x02

-- any bytes, refused by 6; the reply without room for its id, refused by 11; and the reply with room
abbrev pub take₁ : Take
take₁ = record { query = []; reply = 0x99 ∷ []; out = []; behind = [] }

abbrev pub take₂ : Take
take₂ = record { query = query; reply = reply; out = []; behind = [] }

abbrev pub take₃ : Take
take₃ = record { query = query; reply = reply; out = []; behind = replicate 32 0xCC }

abbrev pub takes : List Take
takes = take₁ ∷ take₂ ∷ take₃ ∷ []

abbrev pub AskedHere : Type 0
AskedHere = Asked ours theirs two two 0 lent (length query) takes

-- L + 1 unrefused takes stand in a row, so that the session is done
abbrev pub Done : Type 0
Done = (run ours theirs two two (opening ours two lent) takes).session.done ≡ true

-- ---- handed another table

-- the item exchanged for another; one item more; and the item at another time, which the label does not tell from `ours`
abbrev pub exchanged : Table
exchanged = record { times = 5 ∷ []; ids = starting 0x03 }

abbrev pub more : Table
more = record { times = 5 ∷ 6 ∷ []; ids = starting 0x01 ++ starting 0x02 }

abbrev pub later : Table
later = record { times = 7 ∷ []; ids = starting 0x01 }

-- the reply with room, handed over with a table
abbrev pub handed_with : Table → AnyTake
handed_with T = record { handed = take₃; table = T; limit = unlimited; odd = to_last }

abbrev pub answer_at : Place → Table → Answer ℕ
answer_at p T = (taking ours theirs two two (handed_with T) (lent_at p take₃)).answer

-- What a take with each of them answers after the opening, and after the take with the table of the opening, which is the only one that is not refused in the list: 18
-- before 5, and 4 before 18.
pub record OtherTables : Type 0 where
  pub exchanged_first : answer_at (opening ours two lent) exchanged ≡ refused 18
  pub more_first : answer_at (opening ours two lent) more ≡ refused 4
  pub later_first : answer_at (opening ours two lent) later ≡ answer 0
  pub same_first : answer_at (opening ours two lent) ours ≡ answer 0
  pub place : Place
  pub takes : Takes ours theirs two two unlimited lent place
  pub exchanged_then : answer_at place exchanged ≡ refused 18
  pub same_then : answer_at place ours ≡ refused 5
  pub labelled : place.session ≡ record { marked = 1; needed = 1; done = true; label = record { sum = 0x01; count = 1 } }

-- ---- converted

-- the session that was left, without its label, and its marks and needed list
abbrev pub kept_from : Unlabelled
kept_from = record { marked = 1; needed = 1; done = true }

-- A session that is done is converted, with the table of the opening; after a commit, too, that took the id off the list. The commit's table has one item more, and the
-- marks do not fit it. A table that was changed cannot be told from the opening's: the session gets its label.
pub record Conversions : Type 0 where
  pub done : converted ours kept_from (1 ∷ []) (starting 0x02) ≡ answer (record { marked = 1; needed = 1; done = true; label = record { sum = 0x01; count = 1 } })
  pub committed : converted ours (record { marked = 1; needed = 0; done = true }) (1 ∷ []) (starting 0x02)
      ≡ answer (record { marked = 1; needed = 0; done = true; label = record { sum = 0x01; count = 1 } })
  pub more : converted more kept_from (1 ∷ []) (starting 0x02) ≡ refused 4
  pub unmarked : converted ours kept_from (0 ∷ []) (starting 0x02) ≡ refused 4
  pub changed : converted exchanged kept_from (1 ∷ []) (starting 0x02) ≡ answer (record { marked = 1; needed = 1; done = true; label = record { sum = 0x03; count = 1 } })

-- ---- opened from either end

-- The other end opens: what was the reply is its first query, and what was the query is the answer.
abbrev pub takes_back : List Take
takes_back = record { query = reply; reply = query; out = []; behind = replicate 32 0xCC } ∷ []

-- what `WhoeverOpens` asks of two sessions
pub record AskedBoth (A B : Table) (a b c d : Cut) : Type 0 where
  pub forth : Finished A B a b
  pub back : Finished B A c d
  pub none_forth : NoneCollides A B (end A B a b forth)
  pub none_back : NoneCollides B A (end B A c d back)

abbrev pub AskedBothHere : Type 0
AskedBothHere = (both : AskedBoth ours theirs two two two two) × (both.forth.takes ≡ takes) × (both.back.takes ≡ takes_back)

-- ---- replies of any kind

-- Answers of our responder, with any cut: replies of a kind that is lawful. The opener's table and cut play no part in them.
abbrev pub OwnAnswer : Table → List ℕ → List ℕ → Type 0
OwnAnswer B q r = (b : Cut) × Answers ours B two b q r

-- the same takes as a list of which `TrueAndComplete OwnAnswer` speaks, up to a place where the session is done
abbrev pub RunHere : Type 0
RunHere =
    (p : Place)
    × Run (λ (t : Take). t) (λ t. taken ours two t.reply) (λ t. OwnAnswer theirs t.query t.reply) (opening ours two lent) p
    × (p.session.done ≡ true)
