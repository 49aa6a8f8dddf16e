-- What holds of every message that an end with the items T sends for the ranges rs.
use Rattle.std.specs.Prelude.{ℕ, ◌≤◌, ◌<◌, ◌≡◌, true, false, List, [], ◌∷◌, ◌++◌, length, take}
use Rattle.message.specs.Reader.{read}
use Rattle.message.specs.Message.{Range, read_message}
use Rattle.message.specs.Meaning.{write_message}
use Rattle.message.specs.WellFormed.{Bytes, WellFormed}
use Rattle.table.specs.Table.{Item, Table, items, wrong_size, not_rising}
use Rattle.limit.specs.Limit.{Limit, bytes, below_least, exceeds, fits, longest, first_ids, most_ids, limited, sent_message}

-- SPEC 12.1: the limit "binds the message of that call, the byte 61 included": it is never longer
abbrev pub SentFits : Type 0
SentFits = (n : ℕ) (T : List Item) (rs : List Range) → below_least (bytes n) ≡ false → length (sent_message (bytes n) T rs) ≤ n

-- SPEC 12.2: only "If its message would exceed the limit" is it another than without one
abbrev pub SentWhole : Type 0
SentWhole = (limit : Limit) (T : List Item) (rs : List Range) → exceeds limit (write_message rs) ≡ false → sent_message limit T rs ≡ write_message rs

-- SPEC 12.2: the run "fits together with one last fingerprint range", and it is "the longest": none with more ranges does
pub record LongestRun (n : ℕ) (T : List Item) (rs : List Range) : Type 0 where
  pub fitting : fits n T (take (longest n T rs) rs) ≡ true
  pub none_longer : (k : ℕ) → k ≤ length rs → fits n T (take k rs) ≡ true → k ≤ longest n T rs

abbrev pub RunLongest : Type 0
RunLongest = (n : ℕ) (T : List Item) (rs : List Range) → below_least (bytes n) ≡ false → LongestRun n T rs

-- SPEC 12.3: "the most ids that fit": so many do, unless it is none, and no larger number below all of them does
pub record MostFit (n : ℕ) (T : List Item) (run : List Range) (own : List Item) : Type 0 where
  pub fitting : 0 < most_ids n T run own → fits n T (run ++ (first_ids own (most_ids n T run own) ∷ [])) ≡ true
  pub none_more : (k : ℕ) → 0 < k → k < length own → fits n T (run ++ (first_ids own k ∷ [])) ≡ true → k ≤ most_ids n T run own

abbrev pub IdsMost : Type 0
IdsMost = (n : ℕ) (T : List Item) (run : List Range) (own : List Item) → MostFit n T run own

-- What is sent is a message: it reads as the ranges that were kept. A is a table that passes checks 1 and 2.
abbrev pub SentReads : Type 0
SentReads =
    (A : Table) → Bytes A.ids → wrong_size A ≡ false → not_rising A ≡ false
    → (limit : Limit) (rs : List Range) → below_least limit ≡ false → WellFormed rs
    → read_message (sent_message limit (items A) rs) ≡ read (limited limit (items A) rs) []
