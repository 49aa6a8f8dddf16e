-- What `UnionAfterCommits` asks for, and commits on bytes that meet it: after the takes of the instance of `Demand3`, one item against another, a commit without room
-- for its item, refused by 17; one with room; and the same again, refused by 16.
use Rattle.std.specs.Prelude.{◌≡◌, true, List, [], ◌∷◌, ◌++◌, length, replicate}
use Rattle.limit.specs.Limit.{unlimited}
use Rattle.ends.specs.Demand.{Place}
use Rattle.ends.specs.Instance.{starting, ours, theirs, two, lent, query, reply}
use Rattle.fold.specs.Commits.{Commit, State, run}
use Rattle.fold.specs.Union.{Asked, Delivered, Union, after_takes}

-- what the takes come to: 01 is marked, 02 is needed
abbrev pub last : Place
last = record {
  session = record { marked = 1; needed = 1; done = true; label = record { sum = 0x01; count = 1 } };
  marks = 1 ∷ [];
  needed = starting 0x02;
  sent = query ∷ [];
  handed = (query, reply) ∷ [];
}

abbrev pub commit₁ : Commit
commit₁ = record { batch = theirs; behind_table = record { times = 0 ∷ []; ids = replicate 31 0xAA }; behind_needed = [] }

abbrev pub commit₂ : Commit
commit₂ = record { batch = theirs; behind_table = record { times = 0 ∷ []; ids = replicate 32 0xAA }; behind_needed = replicate 32 0xCC }

abbrev pub commits : List Commit
commits = commit₁ ∷ commit₂ ∷ commit₂ ∷ []

abbrev pub AskedHere : Type 0
AskedHere = Asked ours theirs two two unlimited lent (length query) last commits

-- the second commit was handed the item of the needed id
abbrev pub DeliveredHere : Type 0
DeliveredHere = Delivered (after_takes ours last) commits

-- they come to this: both items, and nothing is needed
abbrev pub both : State
both = record {
  table = record { times = 5 ∷ 6 ∷ []; ids = starting 0x01 ++ starting 0x02 };
  session = record { marked = 1; needed = 0; done = true; label = record { sum = 0x01; count = 1 } };
  needed = [];
}

abbrev pub ComesTo : Type 0
ComesTo = run (after_takes ours last) commits ≡ both

-- and so, by the theorem, this table is the union
abbrev pub IsUnion : Type 0
IsUnion = Union ours theirs both.table
