-- SPEC 12: what an end sends that was given a byte limit.
use Rattle.std.specs.Prelude.{ℕ, zero, suc, ◌-◌, Bool, false, cond, List, [], ◌∷◌, ◌++◌, leb, ltb, length, take, drop}
use Rattle.message.specs.Bound.{Bound, infinity, start}
use Rattle.message.specs.Message.{skip, fingerprint, ids, Range, range, upper, spell_message}
use Rattle.message.specs.Meaning.{tidy, write_message}
use Rattle.table.specs.Answer.{Answer, refuse_if}
use Rattle.table.specs.Table.{Item, within, ids_of}
use Rattle.cutting.specs.Cutting.{fingerprint_of, inner_bound}

-- SPEC 12.1: "Either end may be given a byte limit, each of its calls by itself"
pub data Limit : Type 0 where
  unlimited : Limit
  bytes : ℕ → Limit

-- SPEC 7.14: "a byte limit is below 4,096"
unfoldable pub below_least : Limit → Bool
below_least unlimited = false
below_least (bytes n) = ltb n 4096

abbrev pub judge_limit : {A : Type 0} → Limit → Answer A → Answer A
judge_limit limit next = refuse_if 14 (below_least limit) next

-- SPEC 12.2: "If its message would exceed the limit"; "a message of just so many bytes is within it" (SPEC 12.1)
unfoldable pub exceeds : Limit → List ℕ → Bool
exceeds unlimited message = false
exceeds (bytes n) message = ltb n (length message)

-- the largest of the numbers 1 to n that pass a test, and 0 where none does
unfoldable pub largest : (ℕ → Bool) → ℕ → ℕ
largest test zero = 0
largest test (suc n) = cond (test (suc n)) (suc n) (largest test n)

-- ---- a run of ranges from the start of a message

-- the run's end: its last upper bound
unfoldable pub run_end : Bound → List Range → Bound
run_end x [] = x
run_end x (r ∷ run) = run_end (upper r) run

-- SPEC 12.2: the run "together with one last fingerprint range, from the run's end to infinity. The fingerprint is that of its own items there": these are T.
unfoldable pub closed : List Item → List Range → List Range
closed T run = run ++ (range infinity (fingerprint (fingerprint_of (within (run_end start run) infinity T))) ∷ [])

-- SPEC 12.2: the run "fits together with" it: n bytes hold the message
unfoldable pub fits : ℕ → List Item → List Range → Bool
fits n T run = leb (length (spell_message (closed T run))) n

-- SPEC 12.2: "the longest run of ranges from the start that fits": how many ranges
unfoldable pub longest : ℕ → List Item → List Range → ℕ
longest n T rs = largest (λ k. fits n T (take k rs)) (length rs)

-- ---- an ids range that does not fit whole; `own` are the own items there

-- SPEC 12.3: "cut after" the first k ids, "at the shortest bound before the next id"
unfoldable pub first_ids : List Item → ℕ → Range
first_ids own k = range (inner_bound (take k own) (drop k own)) (ids (ids_of (take k own)))

-- SPEC 12.3: "the most ids that fit" behind the run; SPEC 12.4: "at least one id is kept and at least one is not"
unfoldable pub most_ids : ℕ → List Item → List Range → List Item → ℕ
most_ids n T run own = largest (λ k. fits n T (run ++ (first_ids own k ∷ []))) (length own - 1)

-- SPEC 12.3: "If not one fits, the run ends before that range."
abbrev pub cut_after : ℕ → List Item → List Range
cut_after zero own = []
cut_after (suc k) own = first_ids own (suc k) ∷ []

-- SPEC 12.4: "Only the first range behind the run is cut": what is kept of it, of ids those that fit, of any other nothing
unfoldable pub part_of : ℕ → List Item → List Range → List Range → List Range
part_of n T run [] = []
part_of n T run (range y skip ∷ rs) = []
part_of n T run (range y (fingerprint f) ∷ rs) = []
part_of n T run (range y (ids l) ∷ rs) = let own = within (run_end start run) y T in cut_after (most_ids n T run own) own

-- ---- the message

-- what is kept of ranges that n bytes do not hold
unfoldable pub shortened : ℕ → List Item → List Range → List Range
shortened n T rs = let run = take (longest n T rs) rs in closed T (run ++ part_of n T run (drop (longest n T rs) rs))

-- The ranges that an end with the items T sends for rs. SPEC 12.4: "Ranges are those of the message as it is written: neighbouring skips are one range"
unfoldable pub limited : Limit → List Item → List Range → List Range
limited unlimited T rs = tidy rs
limited (bytes n) T rs = cond (exceeds (bytes n) (write_message rs)) (shortened n T (tidy rs)) (tidy rs)

unfoldable pub sent_message : Limit → List Item → List Range → List ℕ
sent_message limit T rs = spell_message (limited limit T rs)
