-- SPEC 14.5: after commits, too, the conversion gives the session back, "handed the table of the opening".
use Rattle.std.specs.Prelude.{◌≡◌, List, ◌++◌, ℕ, ◌%◌, length}
use Rattle.message.specs.WellFormed.{Bytes}
use Rattle.theory.specs.Rounds.{Cut}
use Rattle.table.specs.Answer.{answer}
use Rattle.table.specs.Table.{Table}
use Rattle.limit.specs.Limit.{Limit}
use Rattle.ends.specs.Opener as Opener
use Rattle.ends.specs.Opener.{opened_within}
use Rattle.ends.specs.Converting.{converted}
use Rattle.ends.specs.Demand.{Place}
use Rattle.ends.specs.Mixed.{Takes}
use Rattle.ends.specs.Labelled.{unlabelled}
use Rattle.fold.specs.Commits.{Commit, State, run}
use Rattle.fold.specs.Union.{after_takes}

-- A is the table of the opening; what the commits made of it plays no part. The marks are those that the takes left.
abbrev pub ConvertedAfterCommits : Type 0
ConvertedAfterCommits =
    (A B : Table) (a b : Cut) → Bytes A.ids → Bytes B.ids
    → (limit : Limit) (lent : Opener.Lent) (n : ℕ) → (opened_within limit A a lent).answer ≡ answer n
    → (p : Place) → Takes A B a b limit lent p
    → (commits : List Commit) (behind : List ℕ) → length behind % 32 ≡ 0
    → let s : State = run (after_takes A p) commits in
    converted A (unlabelled s.session) p.marks (s.needed ++ behind) ≡ answer s.session
