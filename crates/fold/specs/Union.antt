-- SPEC 13.10: after commits that delivered the whole needed list, our table is the union of both, and no id is needed any more.
use Rattle.std.specs.Prelude.{◌≡◌, true, ◌⊎◌, ℕ}
use mathlib.Core.List.{List, [], ◌∷◌, ◌++◌, Memᴰ}
use Rattle.message.specs.WellFormed.{Bytes}
use Rattle.theory.specs.Rounds.{Cut}
use Rattle.table.specs.Answer.{answer}
use Rattle.table.specs.Table.{Item, Table, items}
use Rattle.table.specs.Private.{Passed}
use Rattle.limit.specs.Limit.{Limit}
use Rattle.ends.specs.Opener as Opener
use Rattle.ends.specs.Opener.{opened_within}
use Rattle.ends.specs.Demand.{Place, OneTime}
use Rattle.ends.specs.Finished.{NoneCollides}
use Rattle.ends.specs.Mixed.{Takes}
use Rattle.fold.specs.Commits.{Commit, State, call, next, run, Needs, Handed}

-- what the takes left: our table is the one of the opening
abbrev pub after_takes : Table → Place → State
after_takes A p = record { table = A; session = p.session; needed = p.needed }

-- "each item that an unrefused commit was handed be one of the other end's" (SPEC 13.10), whose table is B
abbrev pub AsHeld : Table → State → List Commit → Type 0
AsHeld B s [] = Unit {0}
AsHeld B s (c ∷ cs) =
    ((m : ℕ) → (call s c).answer ≡ answer m → (i : Item) → Memᴰ i (items c.batch) → Memᴰ i (items B))
    × AsHeld B (next s c) cs

-- "the whole needed list be delivered: each of its ids be that of an item that an unrefused commit was handed" (SPEC 13.10)
abbrev pub Delivered : State → List Commit → Type 0
Delivered s cs = (d : List ℕ) → Needs s d → Handed d s cs

-- "it has each item of either table once, and no other" (SPEC 13.10): once, because it passes 1 and 2, and so its items rise strictly
pub record Union (A B T : Table) : Type 0 where
  pub passes : Passed T
  pub ours : (i : Item) → Memᴰ i (items A) → Memᴰ i (items T)
  pub theirs : (i : Item) → Memᴰ i (items B) → Memᴰ i (items T)
  pub no_other : (i : Item) → Memᴰ i (items T) → Memᴰ i (items A) ⊎ Memᴰ i (items B)

-- What is asked of two tables and cuts, of an opening with this limit that writes n bytes, of the takes after it up to the place p, and of the commits after them;
-- that they delivered the whole needed list is asked beside it.
pub record Asked (A B : Table) (a b : Cut) (limit : Limit) (lent : Opener.Lent) (n : ℕ) (p : Place) (commits : List Commit) : Type 0 where
  pub ours_bytes : Bytes A.ids
  pub theirs_bytes : Bytes B.ids
  pub once : OneTime (items A ++ items B)
  pub opens : (opened_within limit A a lent).answer ≡ answer n
  pub takes : Takes A B a b limit lent p
  pub done : p.session.done ≡ true
  pub none_collides : NoneCollides A B p
  -- refused commits may be handed any items
  pub as_held : AsHeld B (after_takes A p) commits

-- "Then the opener's table is the union of both .. and no id is needed any more." (SPEC 13.10)
abbrev pub UnionAfterCommits : Type 0
UnionAfterCommits =
    (A B : Table) (a b : Cut) (limit : Limit) (lent : Opener.Lent) (n : ℕ) (p : Place) (commits : List Commit)
    → Asked A B a b limit lent n p commits → Delivered (after_takes A p) commits
    → Union A B (run (after_takes A p) commits).table × ((run (after_takes A p) commits).session.needed ≡ 0)

-- SPEC 13.10: "Where no id is needed any more, the whole list was delivered."
abbrev pub DeliveredTold : Type 0
DeliveredTold =
    (A B : Table) (a b : Cut) (limit : Limit) (lent : Opener.Lent) (n : ℕ) (p : Place) (commits : List Commit)
    → Asked A B a b limit lent n p commits → (run (after_takes A p) commits).session.needed ≡ 0
    → Delivered (after_takes A p) commits
