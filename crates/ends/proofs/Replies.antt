-- Replies of any kind that are lawful make reports true and complete.
use Prim.Native.Nat.{ℕ}
use mathlib.Core.Path.{◌≡◌}
use mathlib.Core.Bool.{false}
use mathlib.Core.List.{List, ◌++◌}
use Rattle.message.specs.Reader.{read}
use Rattle.message.specs.Message.{Range, read_message}
use Rattle.message.specs.WellFormed.{Bytes}
use Rattle.theory.specs.Message.{Message}
use Rattle.theory.specs.Lawful.{LawfulReply}
use Rattle.theory.specs.Rounds.{Cut}
use Rattle.theory.proofs.Tests.{by_test, clash}
use Rattle.table.specs.Answer.{refused}
use Rattle.table.specs.Table.{Table, items, wrong_size, not_rising}
use Rattle.cutting.proofs.Projection.{protocol, project}
use Rattle.limit.specs.Limit.{unlimited}
use Rattle.limit.proofs.Parts.{OwnItems, own-items}
use Rattle.ends.specs.Calls.{Result}
use Rattle.ends.specs.Opener.{Lent, taken}
use Rattle.ends.specs.Demand.{Take, Place, opening, Reported, OneTime}
use Rattle.ends.specs.Takes.{Run}
use Rattle.ends.specs.Replies.{TrueAndComplete}
use Rattle.ends.proofs.Tables.{Kept, kept, keys_of}
use Rattle.ends.proofs.Calls.{unrefused-opening, refused-take}
use Rattle.ends.proofs.Relations.{Means, read-means, Begun, Replied}
use Rattle.ends.proofs.Takes.{reported, reported_never}
use Rattle.ends.proofs.Own.{opening-begun, take_took}

-- What is asked of replies: that their table passes checks 1 and 2, and that they are lawful.
pub record LawfulReplies (Replies : Table → List ℕ → List ℕ → Type 0) : Type 0 where
  pub sized : (B : Table) (q r : List ℕ) → Replies B q r → wrong_size B ≡ false
  pub rising : (B : Table) (q r : List ℕ) → Replies B q r → not_rising B ≡ false
  pub replied : (B : Table) (q r : List ℕ) → Bytes B.ids → Replies B q r → {Q : Message (List ℕ)} → Means q Q → Replied B Q r

-- bytes that read as a lawful reply
pub read-replied : (B : Table) {Q : Message (List ℕ)} (r : List ℕ) (rs : List Range) (rest : List ℕ) → Bytes r → read_message r ≡ read rs rest
    → LawfulReply protocol (keys_of B) Q (project rs) → Replied B Q r
read-replied B r rs rest h e lawful = record { message = project rs; means = read-means r rs rest h e; lawful = lawful }

module _ (Replies : Table → List ℕ → List ℕ → Type 0) (A B : Table) (a : Cut) where
  abbrev itself : Take → Take
  itself t = t

  abbrev taking : Take → Lent → Result Lent
  taking t l = taken A a t.reply l

  abbrev Replying : Take → Type 0
  Replying t = Replies B t.query t.reply

  refuses : (t : Take) (l : Lent) (k : ℕ) → (taking t l).answer ≡ refused k → (taking t l).lent ≡ l
  refuses t l k e = refused-take unlimited A a t.reply l k e

  module _ (lawful : LawfulReplies Replies) (k_a : Kept A a) (once : OneTime (items A ++ items B)) (o : Place) (begun : Begun A o) where
    none : ((t : Take) → Replying t → ⊥) → {p : Place} → Run itself taking Replying o p → Reported A B p
    none never ρ = reported_never itself taking Replying A B a never refuses o begun ρ

    some : Bytes B.ids → OwnItems (items B) → {p : Place} → Run itself taking Replying o p → Reported A B p
    some bytes hB ρ =
        reported itself taking Replying A B a
        (record {
          refuses = refuses;
          takes = λ t l n e s h w. take_took unlimited A a k_a t.reply l n e w;
          replies = λ t h w. lawful.replied B t.query t.reply bytes h w;
        })
        o begun k_a hB once ρ

    either : Bytes B.ids → {p : Place} → Run itself taking Replying o p → Reported A B p
    either bytes ρ =
        by_test (wrong_size B) (λ e₁. none (λ t h. clash e₁ (lawful.sized B t.query t.reply h)) ρ)
        (λ e₁. by_test (not_rising B) (λ e₂. none (λ t h. clash e₂ (lawful.rising B t.query t.reply h)) ρ)
        (λ e₂. some bytes (own-items B bytes (e₁, e₂)) ρ))

pub true_and_complete : (Replies : Table → List ℕ → List ℕ → Type 0) → LawfulReplies Replies → TrueAndComplete Replies
true_and_complete Replies lawful A B a bytes-A bytes-B once lent n e p ρ =
    let w = (unrefused-opening unlimited A a lent n e).checks in
    let k_a = kept A a bytes-A w.size w.order w.limits in
    either Replies A B a lawful k_a once (opening A a lent) (opening-begun unlimited A a k_a lent n e) bytes-B ρ
