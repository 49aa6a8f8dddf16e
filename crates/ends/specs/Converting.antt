-- SPEC 14.4: sessions kept from before they had a label.
use Rattle.std.specs.Prelude.{Bool, ◌||◌, List, [], ℕ}
use Rattle.table.specs.Answer.{Answer, answer, refuse_if}
use Rattle.table.specs.Table.{Table, judge_table}
use Rattle.ends.specs.Opener.{Session, Lent, wrong_buffers, wrong_contents, table_label}

-- a session without a label, open or done
pub record Unlabelled : Type 0 where
  pub marked : ℕ
  pub needed : ℕ
  pub done : Bool

-- SPEC 14.4: "It answers the session with the label of the table; all else in the session stays"
abbrev pub labelled : Table → Unlabelled → Session
labelled T s = record { marked = s.marked; needed = s.needed; done = s.done; label = table_label T }

-- what check 4 of a take judges: the session, the marks and the needed list. It has no out buffer.
abbrev pub kept : Session → List ℕ → List ℕ → Lent
kept s marks needed = record { session = s; marks = marks; needed = needed; out = [] }

-- SPEC 14.4: "it makes a take's checks 1, 2 and 4, of sessions that are done too, and no others". Nothing is lent to it that it could change.
unfoldable pub converted : Table → Unlabelled → List ℕ → List ℕ → Answer Session
converted T s marks needed =
    let l = kept (labelled T s) marks needed in
    judge_table T
    (refuse_if 4 (wrong_buffers T l || wrong_contents l)
    (answer (labelled T s)))
