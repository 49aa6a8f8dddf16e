-- SPEC 15: the judge. Its conditions are those of `Approved`, as one test on the ranges of both messages; `JudgedExactly` says that they agree.
use Rattle.std.specs.Prelude.{ℕ, Bool, true, false, cond, not, ◌&&◌, ◌||◌, leb, ltb, length}
use mathlib.Core.List.{List, [], ◌∷◌, ◌++◌, flatten}
use Rattle.message.specs.Reader.{Outcome, read, refused}
use Rattle.message.specs.Bound.{Bound, infinity, key, start}
use Rattle.message.specs.Message.{Payload, skip, fingerprint, ids, Range, range, read_message}
use Rattle.table.specs.Answer.{Answer, answer}
use Rattle.table.specs.Lists.{every}
use Rattle.table.specs.Table.{Item, Table, items, within, ids_of, judge_table}
use Rattle.cutting.specs.Cutting.{fingerprint_of}
use Rattle.ends.specs.Lists.{some, same}
use Rattle.ends.specs.Calls.{each_range}

-- ---- payloads

unfoldable pub is_skip : Payload → Bool
is_skip skip = true
is_skip (fingerprint f) = false
is_skip (ids l) = false

unfoldable pub is_ids : Payload → Bool
is_ids skip = false
is_ids (fingerprint f) = false
is_ids (ids l) = true

-- ---- the ranges that meet a range

-- SPEC 15.7: "what follows the last bound of either message is a skip"
unfoldable pub whole : List Range → List Range
whole rs = rs ++ (range infinity skip ∷ [])

-- SPEC 15.7: "ranges meet if a place lies in both": the one from x to y, and the one from a to b. Each begins below the end of the other.
unfoldable pub meets : Bound → Bound → Bound → Bound → Bool
meets x y a b = ltb (key x) (key b) && ltb (key a) (key y)

-- the payloads of the ranges of rs that meet the range from x to y, the first lower bound being a
unfoldable pub meeting : Bound → Bound → Bound → List Range → List Payload
meeting x y a rs = flatten (each_range (λ a b p. cond (meets x y a b) (p ∷ []) []) a rs)

-- ---- the conditions

-- the same ids: "Listed ids may stand in any order, and a repeat counts once" (SPEC 15.5)
unfoldable pub same_ids : List (List ℕ) → List (List ℕ) → Bool
same_ids l own = every (λ d. some (same d) own) l && every (λ d. some (same d) l) own

-- SPEC 15.5: "Each fingerprint in the reply is the table's, and each ids range lists exactly the table's ids there", own being the table's items there
unfoldable pub of_table : List Item → Payload → Bool
of_table own skip = true
of_table own (fingerprint f) = same f (fingerprint_of own)
of_table own (ids l) = same_ids l (ids_of own)

-- SPEC 15.4: "the reply skips nowhere, and either has ids throughout or has at least two ranges that meet it"
unfoldable pub divides : List Payload → Bool
divides ps = every (λ p. not (is_skip p)) ps && (every is_ids ps || leb 2 (length ps))

-- What a range of the query asks of the reply: own are the table's items in it, and ps the payloads of the reply's ranges that meet it. SPEC 15.3: "Wherever the
-- query skips, or its fingerprint equals the table's, the reply skips"; 15.4 for another fingerprint; SPEC 15.6: "Where the query has ids, the reply has ids."
unfoldable pub answers : List Item → Payload → List Payload → Bool
answers own skip ps = every is_skip ps
answers own (fingerprint f) ps = cond (same f (fingerprint_of own)) (every is_skip ps) (divides ps)
answers own (ids l) ps = every is_ids ps

-- every range passes the test
abbrev pub every_range : (Bound → Bound → Payload → Bool) → List Range → Bool
every_range test rs = every (λ b. b) (each_range test start rs)

-- 15.3 to 15.6 hold; T are the items of the table
unfoldable pub approves : List Item → List Range → List Range → Bool
approves T query reply =
    every_range (λ x y p. of_table (within x y T) p) reply
    && every_range (λ x y p. answers (within x y T) p (meeting x y start (whole reply))) (whole query)

-- ---- the call

-- SPEC 15.2: "both messages read without a refusal"; "A message that does not read gives no, and not its refusal."
abbrev pub verdict : List Item → Outcome (List Range) → Outcome (List Range) → Bool
verdict T (read query rest) (read reply rest') = approves T query reply
verdict T (read query rest) (refused k) = false
verdict T (refused k) reply = false

-- SPEC 15.1: "Judge is handed the table of a responder, a query and a reply, and says yes or no"; "It makes checks 1 and 2 of the table and no others."
unfoldable pub judged : Table → List ℕ → List ℕ → Answer Bool
judged T query reply = judge_table T (answer (verdict (items T) (read_message query) (read_message reply)))
