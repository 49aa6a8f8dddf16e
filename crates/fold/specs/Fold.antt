-- SPEC 13, "Folding in": the inquiry and the commit.
use Rattle.std.specs.Prelude.{Bool, cond, not, ◌&&◌, ◌||◌, ℕ, ◌+◌, ◌*◌, ◌/◌, ◌%◌, ltb, eqb, length, take}
use mathlib.Core.List.{List, [], ◌∷◌, map, foldr, flatten}
use Rattle.message.specs.Bound.{big_endian}
use Rattle.message.specs.Code.{ids_in}
use Rattle.table.specs.Answer.{Answer, answer, refuse_if}
use Rattle.table.specs.Lists.{keep, rising}
use Rattle.table.specs.Table.{Item, key_of, Table, items, ids_of, wrong_size, not_rising}
use Rattle.ends.specs.Lists.{some, same, overwrite}
use Rattle.ends.specs.Calls.{Result, result}
use Rattle.ends.specs.Opener.{Session}

-- what is lent to a commit: the two buffers of our table, the session, and the buffer of the needed list
pub record Lent : Type 0 where
  pub table : Table
  pub session : Session
  pub needed : List ℕ

-- SPEC 13.1: "The table comes with its item count: so many items at the front of its buffers."
abbrev pub front : ℕ → Table → Table
front n T = record { times = take n T.times; ids = take (32 * n) T.ids }

abbrev pub own_items : ℕ → Lent → List Item
own_items n l = items (front n l.table)

abbrev pub needed_ids : Lent → List (List ℕ)
needed_ids l = ids_in l.session.needed l.needed

-- ---- the checks

-- so many items are more than the buffers of a table hold, or than 1,048,576
unfoldable pub cannot_hold : ℕ → Table → Bool
cannot_hold n T = ltb (length T.times) n || ltb (length T.ids) (32 * n) || ltb 1048576 n

-- SPEC 13.6: "The rest of 4 is judged as for a take: the needed buffer is not a multiple of 32 bytes, more ids are needed than it holds, or they do not rise strictly."
unfoldable pub wrong_needed : Lent → Bool
wrong_needed l =
    not (eqb (length l.needed % 32) 0)
    || ltb (length l.needed / 32) l.session.needed
    || not (rising (map (big_endian 32) (needed_ids l)))

-- SPEC 13.7: "An item is in the table if one with its time and its id stands there"
unfoldable pub same_item : Item → Item → Bool
same_item i j = eqb i.time j.time && same i.id j.id

-- SPEC 7.16: "an id of the batch is not on the needed list, or its item is already in the table"; T are the own items
unfoldable pub not_due : List (List ℕ) → List Item → Item → Bool
not_due needed T i = not (some (same i.id) needed) || some (same_item i) T

-- SPEC 13.1: the table "meets 1 only if its buffers are too short for that count, or the count exceeds 1,048,576"; SPEC 13.2: "each of these checks is made of the
-- table and of the batch"; SPEC 7.15, 7.16, and SPEC 7.17: "the table's buffers cannot hold the merge, or it exceeds 1,048,576 items".
unfoldable pub judge_fold : {A : Type 0} → ℕ → Lent → Table → Answer A → Answer A
judge_fold n l batch next =
    refuse_if 1 (cannot_hold n l.table || wrong_size batch)
    (refuse_if 2 (not_rising (front n l.table) || not_rising batch)
    (refuse_if 4 (wrong_needed l)
    (refuse_if 15 (not l.session.done)
    (refuse_if 16 (some (not_due (needed_ids l) (own_items n l)) (items batch))
    (refuse_if 17 (cannot_hold (n + length batch.times) l.table)
    next)))))

-- ---- what a commit does

-- SPEC 13.4: "merges the batch into the table": each of its items at its place among those of the table
unfoldable pub enter : Item → List Item → List Item
enter i [] = i ∷ []
enter i (j ∷ is) = cond (ltb (key_of i) (key_of j)) (i ∷ j ∷ is) (j ∷ enter i is)

unfoldable pub merged : List Item → List Item → List Item
merged T batch = foldr enter T batch

-- SPEC 13.4: "its ids leave the needed list"
unfoldable pub still_needed : List Item → List (List ℕ) → List (List ℕ)
still_needed batch needed = keep (λ d. not (some (same d) (ids_of batch))) needed

-- these items at the front of a table's buffers: "Table bytes behind the merge stay" (SPEC 13.5)
unfoldable pub laid : List Item → Table → Table
laid is T = record { times = overwrite (map (λ (i : Item). i.time) is) T.times; ids = overwrite (flatten (ids_of is)) T.ids }

-- What a commit leaves, by our items and the needed ids afterwards. SPEC 13.4: "The session keeps the count of its marks and its label, and is done; its count of
-- needed ids is that of the shorter list." SPEC 13.5: so do "needed bytes behind the shorter list".
unfoldable pub commit_leaves : List Item → List (List ℕ) → Lent → Lent
commit_leaves own needed l = record {
  table = laid own l.table;
  session = record { marked = l.session.marked; needed = length needed; done = l.session.done; label = l.session.label };
  needed = overwrite (flatten needed) l.needed;
}

-- ---- the calls, for a table of n items

-- SPEC 13.3: "Inquire changes nothing and reports how many items would enter and how many ids would stay needed."
unfoldable pub inquired : ℕ → Lent → Table → Answer (ℕ × ℕ)
inquired n l batch = judge_fold n l batch (answer (length (items batch), length (still_needed (items batch) (needed_ids l))))

-- SPEC 13.4: "Commit makes every check afresh and merges the batch into the table; its ids leave the needed list. It answers how many items the table has then."
unfoldable pub committed : ℕ → Lent → Table → Result Lent
committed n l batch =
    result l
    (judge_fold n l batch
    (answer (n + length (items batch), commit_leaves (merged (own_items n l) (items batch)) (still_needed (items batch) (needed_ids l)) l)))
