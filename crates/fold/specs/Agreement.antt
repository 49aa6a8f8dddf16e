-- SPEC 13.8: the inquiry and the commit agree. SPEC 13.9: what a commit leaves can be handed to the next one.
use Rattle.std.specs.Prelude.{◌≡◌, true, false, ◌↔◌, ℕ, ◌+◌, ◌%◌, length}
use Rattle.message.specs.WellFormed.{Bytes}
use Rattle.table.specs.Answer.{answer, refused}
use Rattle.table.specs.Table.{Table, not_rising}
use Rattle.fold.specs.Fold.{Lent, front, cannot_hold, wrong_needed, inquired, committed}
use Rattle.fold.specs.Commits.{Commit, State, lent_at, call, next}

-- SPEC 13.8: "The inquiry's yes and the commit's success agree if nothing changed between: so many items enter and so many ids stay needed. A refusal has the same
-- number."
pub record Agrees (n : ℕ) (l : Lent) (batch : Table) : Type 0 where
  pub yes : (entering staying : ℕ) → inquired n l batch ≡ answer (entering, staying)
      → ((committed n l batch).answer ≡ answer (n + entering)) × ((committed n l batch).lent.session.needed ≡ staying)
  pub success : (m : ℕ) → (committed n l batch).answer ≡ answer m
      → (entering : ℕ) × (m ≡ n + entering) × (inquired n l batch ≡ answer (entering, (committed n l batch).lent.session.needed))
  pub no : (k : ℕ) → inquired n l batch ≡ refused k ↔ (committed n l batch).answer ≡ refused k

abbrev pub InquiryAgrees : Type 0
InquiryAgrees = (n : ℕ) (l : Lent) (batch : Table) → Agrees n l batch

-- 1, 2, 4 and 15 do not meet our table, session and needed list, "with any room behind the table and any whole ids behind the needed list" (SPEC 13.9)
pub record Passes (s : State) : Type 0 where
  pub held : (c : Commit) → cannot_hold (length s.table.times) (lent_at s c).table ≡ false
  pub rises : (c : Commit) → not_rising (front (length s.table.times) (lent_at s c).table) ≡ false
  pub list : (c : Commit) → length c.behind_needed % 32 ≡ 0 → wrong_needed (lent_at s c) ≡ false
  pub done : s.session.done ≡ true

abbrev pub CommitPasses : Type 0
CommitPasses =
    (s : State) (c : Commit) (m : ℕ) → Bytes (lent_at s c).table.ids → Bytes c.batch.ids → (call s c).answer ≡ answer m
    → Passes (next s c)
