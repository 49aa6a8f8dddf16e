-- SPEC 6.7: what an unrefused opening or take leaves passes check 4 of the take after it: its counts are those of its marks and its needed ids, and "The needed list
-- rises by id, in the order of 1.2, without repeats" (SPEC 5.4).
use Rattle.std.specs.Prelude.{◌≡◌, false, List, ◌++◌, ℕ, ◌*◌, ◌%◌, length, take}
use Rattle.message.specs.WellFormed.{Bytes}
use Rattle.theory.specs.Rounds.{Cut}
use Rattle.table.specs.Answer.{answer}
use Rattle.table.specs.Table.{Table}
use Rattle.limit.specs.Limit.{Limit}
use Rattle.ends.specs.Opener.{Lent, wrong_buffers, wrong_contents, opened_within, taken_within}

-- session, marks and needed list handed on as l has them; the bytes behind the list and the out buffer are the caller's
abbrev pub handed_on : Lent → List ℕ → List ℕ → Lent
handed_on l behind out = record { session = l.session; marks = l.marks; needed = take (32 * l.session.needed) l.needed ++ behind; out = out }

-- 4 does not meet them, with any bytes behind the list, if these are whole ids too
abbrev pub Passes : Table → Lent → Type 0
Passes T l = (behind out : List ℕ) → length behind % 32 ≡ 0 → (wrong_buffers T (handed_on l behind out) ≡ false) × (wrong_contents (handed_on l behind out) ≡ false)

abbrev pub OpeningPasses : Type 0
OpeningPasses =
    (limit : Limit) (T : Table) (c : Cut) (l : Lent) (n : ℕ) → (opened_within limit T c l).answer ≡ answer n → Passes T (opened_within limit T c l).lent

-- whatever the reply was
abbrev pub TakePasses : Type 0
TakePasses =
    (limit : Limit) (T : Table) (c : Cut) (reply : List ℕ) (l : Lent) (n : ℕ) → Bytes reply → Bytes l.needed → (taken_within limit T c reply l).answer ≡ answer n
    → Passes T (taken_within limit T c reply l).lent
