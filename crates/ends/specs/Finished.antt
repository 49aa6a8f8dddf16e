-- SPEC 6.9: finished sessions, and two of them over the same two tables, opened from either end.
use Rattle.std.specs.Prelude.{◌≡◌, true, List, ◌++◌, ◌↔◌, ℕ}
use Rattle.message.specs.WellFormed.{Bytes}
use Rattle.theory.specs.Rounds.{Cut}
use Rattle.table.specs.Answer.{answer}
use Rattle.table.specs.Table.{Item, Table, items}
use Rattle.ends.specs.Opener.{Lent, opened}
use Rattle.ends.specs.Demand.{Take, Place, opening, run, HandedAnswers, ReportsTheirs, ReportsOurs, Colliding, OneTime}

-- no range is colliding that holds an item, as every range does in which the two tables have different items
abbrev pub NoneCollides : Table → Table → Place → Type 0
NoneCollides A B p = (i : Item) → Colliding A B p i → ⊥

-- A and B are the tables of opener and responder, a and b their cuts.
module _ (A B : Table) (a b : Cut) where
  -- a list of takes after an unrefused opening, which left the session done
  pub record Finished : Type 0 where
    pub lent : Lent
    pub size : ℕ
    pub opens : (opened A a lent).answer ≡ answer size
    pub takes : List Take
    pub handed : HandedAnswers A B a b (opening A a lent) takes
    pub done : (run A B a b (opening A a lent) takes).session.done ≡ true

  -- what it left
  abbrev pub end : Finished → Place
  end s = run A B a b (opening A a s.lent) s.takes

-- SPEC 6.9: "Take two finished sessions over the same two tables, opened from either end, with no id under two times, any cuts, and no colliding range in
-- either. What one reports as ours only is what the other reports as theirs only, and the reverse, as sets of ids."
abbrev pub WhoeverOpens : Type 0
WhoeverOpens =
    (A B : Table) (a b c d : Cut) → Bytes A.ids → Bytes B.ids → OneTime (items A ++ items B)
    → (s : Finished A B a b) (z : Finished B A c d) → NoneCollides A B (end A B a b s) → NoneCollides B A (end B A c d z)
    → (i : List ℕ)
    → (ReportsOurs A (end A B a b s) i ↔ ReportsTheirs (end B A c d z) i)
    × (ReportsTheirs (end A B a b s) i ↔ ReportsOurs B (end B A c d z) i)
