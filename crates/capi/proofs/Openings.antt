-- What was lent to an opening, as its answer tells it: marks and out buffer stand there as they are afterwards, refused or not.
use Rattle.std.specs.Prelude.{Result, Ok, Err, ◌≡◌, List, ℕ, refl}
use Rattle.table.specs.declared.Refusal.{Refusal}
use Rattle.session.specs.declared.opener.Opened.{Opened}
use Rattle.session.specs.Code.{opened_in}

pub opened_marks : (r : Result Opened Refusal) (marks needed out : List ℕ) → marks ≡ (opened_in r marks needed out).lent.marks
opened_marks (Ok o) marks needed out = refl
opened_marks (Err k) marks needed out = refl

pub opened_out : (r : Result Opened Refusal) (marks needed out : List ℕ) → out ≡ (opened_in r marks needed out).lent.out
opened_out (Ok o) marks needed out = refl
opened_out (Err k) marks needed out = refl
