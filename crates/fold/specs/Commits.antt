-- Commits one after another, refused ones included, and which ids are needed after them.
use Rattle.std.specs.Prelude.{◌≡◌, ◌⊎◌, ◌↔◌, ℕ, ◌*◌, ◌≤◌, length, take}
use mathlib.Core.List.{List, [], ◌∷◌, ◌++◌, Memᴰ}
use Rattle.message.specs.Code.{ids_in}
use Rattle.table.specs.Answer.{Answer, answer, refused}
use Rattle.table.specs.Table.{Table, items, ids_of}
use Rattle.ends.specs.Calls.{Result}
use Rattle.ends.specs.Opener.{Session}
use Rattle.fold.specs.Fold.{Lent, front, committed}

-- What one commit is handed beside our table, session and needed list: the batch, and the bytes behind the table and behind the needed list in their buffers.
-- These are the caller's at each commit.
pub record Commit : Type 0 where
  pub batch : Table
  pub behind_table : Table
  pub behind_needed : List ℕ

-- our table, session and needed list as the call before left them
pub record State : Type 0 where
  pub table : Table
  pub session : Session
  pub needed : List ℕ

-- SPEC 13.10: "each handed table, session and needed list as the call before left them"
abbrev pub lent_at : State → Commit → Lent
lent_at s c = record {
  table = record { times = s.table.times ++ c.behind_table.times; ids = s.table.ids ++ c.behind_table.ids };
  session = s.session;
  needed = s.needed ++ c.behind_needed;
}

abbrev pub call : State → Commit → Result Lent
call s c = committed (length s.table.times) (lent_at s c) c.batch

-- how many items a table of n has after a call
abbrev pub count_after : ℕ → Answer ℕ → ℕ
count_after n (answer m) = m
count_after n (refused k) = n

abbrev pub next : State → Commit → State
next s c = record {
  table = front (count_after (length s.table.times) (call s c).answer) (call s c).lent.table;
  session = (call s c).lent.session;
  needed = take (32 * (call s c).lent.session.needed) (call s c).lent.needed;
}

abbrev pub run : State → List Commit → State
run s [] = s
run s (c ∷ cs) = run (next s c) cs

-- ---- the needed list

-- d stands on it
abbrev pub Needs : State → List ℕ → Type 0
Needs s d = Memᴰ d (ids_in s.session.needed s.needed)

-- d is the id of an item that an unrefused commit was handed
abbrev pub Handed : List ℕ → State → List Commit → Type 0
Handed d s [] = ⊥
Handed d s (c ∷ cs) = ((m : ℕ) × ((call s c).answer ≡ answer m) × Memᴰ d (ids_of (items c.batch))) ⊎ Handed d (next s c) cs

-- SPEC 13.4: "its ids leave the needed list", and no other id leaves or enters it. Asked is only that as many whole ids stand there as the session
-- counts, which holds after takes and after commits.
abbrev pub NeededAfterCommits : Type 0
NeededAfterCommits =
    (s : State) (cs : List Commit) → 32 * s.session.needed ≤ length s.needed
    → (d : List ℕ) → Needs (run s cs) d ↔ (Needs s d × (Handed d s cs → ⊥))
