-- The arguments of the calls that fold a batch in, as those of the definitions, and what these calls answer.
use Rattle.std.specs.Prelude.{List, ℕ}
use Rattle.table.specs.Answer.{Answer, answer, refused}
use Rattle.table.specs.Code.{lent}
use Rattle.ends.specs.Calls.{Result}
use Rattle.fold.specs.Fold.{Lent}
use Rattle.ends.specs.Opener as E
use Rattle.capi.specs.Calls.{session_by, number_in}
use Rattle.capi.specs.declared.Session.{Session}
use Rattle.capi.specs.declared.folds.InquiryAnswer.{InquiryAnswer}
use Rattle.capi.specs.declared.folds.CommitAnswer.{CommitAnswer}

abbrev pub fold_lent : List ℕ → List ℕ → Session → List ℕ → Lent
fold_lent times ids s needed = record { table = lent times ids; session = session_by s; needed = needed }

-- the number of the refusal and zeros; the number 0, how many items would enter and how many ids would stay needed
abbrev pub told_inquiry : Answer (ℕ × ℕ) → InquiryAnswer
told_inquiry (answer (entering, staying)) = record { refusal = 0; entering = entering; staying = staying }
told_inquiry (refused k) = record { refusal = k; entering = 0; staying = 0 }

-- how many items the table has afterwards, where it were so many before
abbrev pub items_in : ℕ → Answer ℕ → ℕ
items_in before (answer n) = n
items_in before (refused k) = before

-- the number of the refusal, or 0; the items and the session as they are afterwards
pub record Told : Type 0 where
  pub refusal : ℕ
  pub items : ℕ
  pub session : E.Session

abbrev pub told_by : CommitAnswer → Told
told_by r = record { refusal = r.refusal; items = r.items; session = session_by r.session }

abbrev pub told_commit : ℕ → Result Lent → Told
told_commit items r = record { refusal = number_in r.answer; items = items_in items r.answer; session = r.lent.session }
