-- What `Demand3Mixed` asks for and what it claims, for tables and cuts that are given.
use Rattle.std.specs.Prelude.{◌≡◌, ◌++◌, ℕ, suc, length}
use Rattle.message.specs.WellFormed.{Bytes}
use Rattle.theory.specs.Rounds.{Cut}
use Rattle.table.specs.Answer.{answer}
use Rattle.table.specs.Table.{Table, items}
use Rattle.limit.specs.Limit.{Limit}
use Rattle.ends.specs.Opener.{Lent, opened_within}
use Rattle.ends.specs.Demand.{Place, OneTime, Smallest}
use Rattle.ends.specs.Takes as T
use Rattle.ends.specs.Mixed.{AnyTake, handed_to, taking, Promised, WholeReply, WholeQuery, WholeFirst, Takes}

module _ (A B : Table) (a b : Cut) where
  -- the place behind a take
  abbrev pub after : Place → AnyTake → Place
  after = T.next handed_to (taking A B a b) (Promised A B a b)

  -- What is asked of L, of an opening that writes n bytes, and of the takes after it, up to the place p.
  pub record Asked (L : ℕ) (limit : Limit) (lent : Lent) (n : ℕ) (p : Place) : Type 0 where
    pub ours_bytes : Bytes A.ids
    pub theirs_bytes : Bytes B.ids
    pub once : OneTime (items A ++ items B)
    pub smallest : Smallest a (length A.times) L
    pub opens : (opened_within limit A a lent).answer ≡ answer n
    pub takes : Takes A B a b limit lent p

  module _ (L : ℕ) (limit : Limit) {lent : Lent} {n : ℕ} {p : Place} (h : Asked L limit lent n p) where
    -- the list up to the place ends in a row of L + 1 takes
    abbrev pub InRow : Type 0
    InRow = T.Row handed_to (taking A B a b) (Promised A B a b) (suc L) h.takes

    -- in which nothing was cut short
    abbrev pub AllWhole : Type 0
    AllWhole = T.Whole handed_to (taking A B a b) (Promised A B a b) (WholeFirst A B a b limit) (WholeReply A B a b) (WholeQuery A B a b) (suc L) h.takes

    -- what is owed there
    abbrev pub Owed : Type 0
    Owed = T.Owed handed_to (taking A B a b) (Promised A B a b) (WholeFirst A B a b limit) (WholeReply A B a b) (WholeQuery A B a b) A B L h.takes
