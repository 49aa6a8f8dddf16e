-- What the values of the code's types mean.
use Rattle.std.specs.Prelude.{Result, Ok, Err, ℕ, Bool, List}
use Rattle.table.specs.Answer.{Answer}
use Rattle.table.specs.Code.{answer_by, lent}
use Rattle.table.specs.declared.Refusal.{Refusal}
use Rattle.label.specs.Label.{Label}
use Rattle.fold.specs.Fold.{Lent}
use Rattle.folding.specs.declared.Inquiry.{Inquiry}
use Rattle.folding.specs.declared.Merged.{Merged}

-- how many items would enter and how many ids would stay needed, or the number of the refusal
abbrev pub inquiry_of : Result Inquiry Refusal → Answer (ℕ × ℕ)
inquiry_of r = answer_by (λ (i : Inquiry). (i.entering, i.staying)) r

-- how many items the table has afterwards, or the number of the refusal
abbrev pub outcome_of : Result Merged Refusal → Answer ℕ
outcome_of r = answer_by (λ (m : Merged). m.count) r

-- how many ids are needed afterwards, where it were so many before
abbrev pub needed_by : ℕ → Result Merged Refusal → ℕ
needed_by before (Ok m) = m.needed
needed_by before (Err k) = before

-- What is lent: the two slices of the table, the needed list, and what the session says. SPEC 13.6: "Neither is handed the marks or judges their count": the code is not
-- given it. Nor is it given the label, which no check of these calls compares (SPEC 8.1).
abbrev pub lent_to : List ℕ → List ℕ → List ℕ → ℕ → Label → ℕ → Bool → Lent
lent_to times ids list marked label needed done = record {
  table = lent times ids;
  session = record { marked = marked; needed = needed; done = done; label = label };
  needed = list;
}
