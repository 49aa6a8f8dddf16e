-- SPEC 15.2: the judge says yes exactly to approved replies.
use Rattle.std.specs.Prelude.{ℕ, ◌≡◌, true, false, List, [], ◌↔◌}
use Rattle.message.specs.Reader.{read}
use Rattle.message.specs.Message.{Range, read_message}
use Rattle.message.specs.WellFormed.{Bytes}
use Rattle.table.specs.Answer.{answer}
use Rattle.table.specs.Table.{Table, items, wrong_size, not_rising}
use Rattle.judge.specs.Approved.{Approved}
use Rattle.judge.specs.Judge.{judged}

-- Neither 1 nor 2 meets the table, and "both messages read without a refusal, the first byte of each being 61, and 15.3 to 15.6 hold" (SPEC 15.2). A message whose first
-- byte is not 61 is refused by 6.
pub record Lawful (T : Table) (query reply : List ℕ) : Type 0 where
  pub size : wrong_size T ≡ false
  pub order : not_rising T ≡ false
  pub asked : List Range
  pub given : List Range
  pub query_says : read_message query ≡ read asked []
  pub reply_says : read_message reply ≡ read given []
  pub approved : Approved (items T) asked given

-- SPEC 15.2: "It says yes exactly when" so
abbrev pub JudgedExactly : Type 0
JudgedExactly = (T : Table) (query reply : List ℕ) → Bytes query → Bytes reply → (judged T query reply ≡ answer true) ↔ Lawful T query reply
