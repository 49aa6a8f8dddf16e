-- What the values of the code's types mean.
use Rattle.std.specs.Prelude.{Result, Ok, Err, ℕ, List}
use Rattle.table.specs.Answer.{Answer, answer, refused}
use Rattle.table.specs.Table.{Table}
use Rattle.table.specs.declared.Refusal.{Refusal}

-- the number that each refusal has under SPEC 7, "Refusals, in checking order"
abbrev pub number_of : Refusal → ℕ
number_of Refusal.TableSize = 1
number_of Refusal.TableOrder = 2
number_of Refusal.CutLimits = 3
number_of Refusal.WrongState = 4
number_of Refusal.SessionDone = 5
number_of Refusal.WrongVersion = 6
number_of Refusal.Truncated = 7
number_of Refusal.BadVarint = 8
number_of Refusal.BadBound = 9
number_of Refusal.BadMode = 10
number_of Refusal.NeededFull = 11
number_of Refusal.NoRoom = 12
number_of Refusal.WrongTree = 13
number_of Refusal.ByteLimit = 14
number_of Refusal.SessionOpen = 15
number_of Refusal.NotDue = 16
number_of Refusal.TableFull = 17
number_of Refusal.OtherTable = 18

-- what a call answers, seen by `view`, or the number of the refusal
abbrev pub answer_by : {A B : Type 0} → (A → B) → Result A Refusal → Answer B
answer_by view (Ok a) = answer (view a)
answer_by view (Err k) = refused (number_of k)

abbrev pub answer_of : {A : Type 0} → Result A Refusal → Answer A
answer_of r = answer_by (λ a. a) r

-- the table lent as two slices
abbrev pub lent : List ℕ → List ℕ → Table
lent times ids = record { times = times; ids = ids }
