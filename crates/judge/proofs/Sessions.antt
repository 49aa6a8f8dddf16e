-- Reports with approved replies are true and complete: an instance of `true_and_complete_mixed`.
use mathlib.Core.Path.{sym, ap, ◌∙◌}
use Prim.Native.Nat.{ℕ}
use mathlib.Core.List.{List}
use Rattle.message.specs.WellFormed.{Bytes}
use Rattle.theory.specs.Message.{Message}
use Rattle.table.specs.Table.{Table}
use Rattle.cutting.proofs.Projection.{project}
use Rattle.ends.proofs.Relations.{Means, means-ranges, Replied}
use Rattle.ends.proofs.Replies.{read-replied}
use Rattle.ends.proofs.AnyReplies.{true_and_complete_mixed}
use Rattle.judge.specs.Exact.{Lawful}
use Rattle.judge.specs.Sessions.{GetsYes, ApprovedReports}
use Rattle.judge.proofs.Verdict.{bytes_well, means_well, yes_checks, yes-lawful, judged-lawful}

lawful : (B : Table) (q r : List ℕ) → GetsYes B q r → {Q : Message (List ℕ)} → Means q Q → Lawful B q r
lawful B q r h w = yes-lawful B q r (means_well w) (bytes_well r h.0) h.1

approved-replied : (B : Table) (q r : List ℕ) → Bytes B.ids → GetsYes B q r → {Q : Message (List ℕ)} → Means q Q → Replied B Q r
approved-replied B q r bytes h w =
    let yes = lawful B q r h w in
    let is = w.projected ∙ ap project (sym (means-ranges w yes.query_says)) in
    rw is (read-replied B r yes.given _ h.0 yes.reply_says (judged-lawful B q r bytes yes))

pub approved-reports : ApprovedReports
approved-reports = true_and_complete_mixed GetsYes (record {
  sized = λ B q r h. (yes_checks B q r h.1).0;
  rising = λ B q r h. (yes_checks B q r h.1).1;
  replied = λ B q r bytes h w. approved-replied B q r bytes h w;
})
