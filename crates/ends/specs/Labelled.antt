-- SPEC 14.1, 14.2, 14.5: what holds of the session's label at every place of a list of takes.
use Rattle.std.specs.Prelude.{◌≡◌, List, ◌++◌, ℕ, ◌%◌, length}
use Rattle.message.specs.WellFormed.{Bytes}
use Rattle.theory.specs.Rounds.{Cut}
use Rattle.table.specs.Answer.{answer, refused}
use Rattle.table.specs.Table.{Table}
use Rattle.limit.specs.Limit.{Limit}
use Rattle.ends.specs.Opener.{Session, Lent, table_label, opened_within}
use Rattle.ends.specs.Converting.{Unlabelled, converted}
use Rattle.ends.specs.Demand.{Place}
use Rattle.ends.specs.Takes.{lent_at}
use Rattle.ends.specs.Mixed.{AnyTake, taking, Takes}

-- a session without its label
abbrev pub unlabelled : Session → Unlabelled
unlabelled s = record { marked = s.marked; needed = s.needed; done = s.done }

-- What holds at a place p; A is the opener's table at the opening.
pub record Knows (A B : Table) (a b : Cut) (p : Place) : Type 0 where
  -- SPEC 14.1: "The session carries the label of the whole table at its opening"
  pub label : p.session.label ≡ table_label A
  -- SPEC 14.2: "A take with a table of another label is refused"
  pub other : (x : AnyTake) → (table_label x.table ≡ table_label A → ⊥) → (k : ℕ) × ((taking A B a b x (lent_at p x.handed)).answer ≡ refused k)
  -- SPEC 14.5: "the conversion of the session without its label, handed the table of the opening, the marks and the needed list, with any whole ids behind it, gives the
  -- session back"
  pub back : (behind : List ℕ) → length behind % 32 ≡ 0 → converted A (unlabelled p.session) p.marks (p.needed ++ behind) ≡ answer p.session

-- at every place of every list of takes of `Demand3Mixed`
abbrev pub KnowsItsTable : Type 0
KnowsItsTable =
    (A B : Table) (a b : Cut) → Bytes A.ids → Bytes B.ids
    → (limit : Limit) (lent : Lent) (n : ℕ) → (opened_within limit A a lent).answer ≡ answer n
    → (p : Place) → Takes A B a b limit lent p
    → Knows A B a b p
