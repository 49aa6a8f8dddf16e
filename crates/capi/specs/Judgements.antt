-- What the judge answers.
use Rattle.std.specs.Prelude.{Bool, false}
use Rattle.table.specs.Answer.{Answer, answer, refused}
use Rattle.capi.specs.declared.replies.Judgement.{Judgement}

-- the number 0, and yes or no; the number of the refusal and no
abbrev pub told_judgement : Answer Bool → Judgement
told_judgement (answer approved) = record { refusal = 0; approved = approved }
told_judgement (refused k) = record { refusal = k; approved = false }
