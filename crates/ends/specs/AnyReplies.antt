-- SPEC 6.8: as `TrueAndComplete`, with byte limits, either rule for cutting, and other tables at the opener's calls. `Replies` says of a table and two messages that the second may be handed over as the reply of a responder with this
-- table to the first.
use Rattle.std.specs.Prelude.{◌≡◌, List, ◌++◌, ℕ}
use Rattle.message.specs.WellFormed.{Bytes}
use Rattle.theory.specs.Rounds.{Cut}
use Rattle.table.specs.Answer.{answer}
use Rattle.table.specs.Table.{Table, items}
use Rattle.limit.specs.Limit.{Limit}
use Rattle.ends.specs.Opener.{Lent, opened_within}
use Rattle.ends.specs.Demand.{Place, Reported, OneTime}
use Rattle.ends.specs.Takes.{Run}
use Rattle.ends.specs.Mixed.{AnyTake, handed_to, opening_within, taking, LabelTells}

-- A and B are the tables of opener and responder, A at the opening, and a is the opener's cut. The responder may cut as it likes: b plays no part.
module _ (Replies : Table → List ℕ → List ℕ → Type 0) (A B : Table) (a b : Cut) where
  -- what is asked of an unrefused take
  abbrev pub Replied : AnyTake → Type 0
  Replied x = LabelTells A B a b x × Replies B x.handed.query x.handed.reply

  -- The takes after an opening with this limit, up to a place. Each call of the opener may be given a byte limit and cut by either rule, and each take may be handed
  -- another table, as in `Demand3Mixed`.
  abbrev pub TakesOf : Limit → Lent → Place → Type 0
  TakesOf limit lent p = Run handed_to (taking A B a b) Replied (opening_within limit A a lent) p

-- SPEC 6.8: "Reports are as true and complete as in 6.5 with any mix of lawful replies." "The number of queries is then not promised."
abbrev pub TrueAndCompleteMixed : (Table → List ℕ → List ℕ → Type 0) → Type 0
TrueAndCompleteMixed Replies =
    (A B : Table) (a b : Cut) → Bytes A.ids → Bytes B.ids → OneTime (items A ++ items B)
    → (limit : Limit) (lent : Lent) (n : ℕ) → (opened_within limit A a lent).answer ≡ answer n
    → (p : Place) → TakesOf Replies A B a b limit lent p
    → Reported A B p
