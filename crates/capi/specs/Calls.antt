-- The arguments of the calls for C and Rust, as those of the definitions, and what the calls answer.
use Rattle.std.specs.Prelude.{Bool, true, false, cond, List, ℕ, eqb, length}
use Rattle.message.specs.declared.Bound.{Bound}
use Rattle.theory.specs.Rounds.{to_last, Cut}
use Rattle.label.specs.Label as L
use Rattle.label.specs.Code.{label_in}
use Rattle.table.specs.Answer as A
use Rattle.ends.specs.Calls.{Result}
use Rattle.ends.specs.Opener as E
use Rattle.capi.specs.declared.Label.{Label}
use Rattle.capi.specs.declared.Session.{Session}
use Rattle.capi.specs.declared.Answer.{Answer}
use Rattle.capi.specs.declared.SessionAnswer.{SessionAnswer}

abbrev pub cut_by : ℕ → ℕ → Cut
cut_by parts limit = record { parts = parts; limit = limit; odd = to_last }

-- a label, whose sum stands in four words
abbrev pub label_by : Label → L.Label
label_by l = label_in (record { sum = l.sum; count = l.count })

abbrev pub session_by : Session → E.Session
session_by s = record { marked = s.marked; needed = s.needed; done = s.done; label = label_by s.label }

abbrev pub lent_to : Session → List ℕ → List ℕ → List ℕ → E.Lent
lent_to s marks needed out = record { session = session_by s; marks = marks; needed = needed; out = out }

-- the number of the refusal and no length; the number 0 and the length of the message
abbrev pub told : A.Answer ℕ → Answer
told (A.answer n) = record { refusal = 0; length = n }
told (A.refused k) = record { refusal = k; length = 0 }

-- The same, and the session as it is afterwards. A sum below 2^256 has one spelling in four words, so that this is all of a `SessionAnswer`.
pub record Told : Type 0 where
  pub refusal : ℕ
  pub length : ℕ
  pub session : E.Session

abbrev pub told_by : SessionAnswer → Told
told_by r = record { refusal = r.refusal; length = r.length; session = session_by r.session }

abbrev pub told_with : Result E.Session → Told
told_with r = record { refusal = (told r.answer).refusal; length = (told r.answer).length; session = r.lent }

-- of an opening or a take
abbrev pub session_of : Result E.Lent → Result E.Session
session_of r = record { answer = r.answer; lent = r.lent.session }

-- A bound with a prefix of so many bytes. At infinity a prefix is 9 (SPEC 7.9), as the time 2^64 - 1 is, which stands in for it.
abbrev pub bound_by : Bool → ℕ → ℕ → Bound
bound_by true time len = cond (eqb len 0) Bound.Infinity (Bound.At 18446744073709551615 len)
bound_by false time len = Bound.At time len

-- the number of the refusal, or 0
abbrev pub number_in : {B : Type 0} → A.Answer B → ℕ
number_in (A.answer b) = 0
number_in (A.refused k) = k
