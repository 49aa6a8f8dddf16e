-- Lawful replies of any kind make reports true and complete, with byte limits, either rule for cutting, and other tables at the opener's calls.
use Prim.Native.Nat.{ℕ}
use mathlib.Core.List.{List, ◌++◌}
use Rattle.message.specs.WellFormed.{Bytes}
use Rattle.theory.specs.Rounds.{Cut}
use Rattle.theory.proofs.Tests.{by_test, clash}
use Rattle.table.specs.Table.{Table, items, wrong_size, not_rising}
use Rattle.limit.proofs.Parts.{OwnItems, own-items}
use Rattle.ends.specs.Demand.{Place, Reported, OneTime}
use Rattle.ends.specs.Takes.{Run}
use Rattle.ends.specs.Mixed.{AnyTake, handed_to, opening_within, taking}
use Rattle.ends.specs.AnyReplies as specs
use Rattle.ends.specs.AnyReplies.{TrueAndCompleteMixed}
use Rattle.ends.proofs.Tables.{Kept, kept}
use Rattle.ends.proofs.Calls.{unrefused-opening}
use Rattle.ends.proofs.Relations.{Begun}
use Rattle.ends.proofs.Takes.{reported, reported_never}
use Rattle.ends.proofs.Own.{opening-begun}
use Rattle.ends.proofs.Replies.{LawfulReplies}
use Rattle.ends.proofs.Mixed.{refuses, opener's, same}

module _ (Replies : Table → List ℕ → List ℕ → Type 0) (A B : Table) (a b : Cut) (lawful : LawfulReplies Replies) (k_a : Kept A a) (o : Place) (begun : Begun A o) where
  abbrev Allowed : AnyTake → Type 0
  Allowed = specs.Replied Replies A B a b

  abbrev Takes : Place → Type 0
  Takes p = Run handed_to (taking A B a b) Allowed o p

  none : ((x : AnyTake) → Allowed x → ⊥) → {p : Place} → Takes p → Reported A B p
  none never ρ = reported_never handed_to (taking A B a b) Allowed A B a never (refuses A B a b) o begun ρ

  some : OneTime (items A ++ items B) → Bytes B.ids → OwnItems (items B) → {p : Place} → Takes p → Reported A B p
  some once bytes hB ρ =
      reported handed_to (taking A B a b) Allowed A B a
      (record {
        refuses = refuses A B a b;
        takes = λ x l n e s h w. (same A B a b k_a x l n e (opener's A B a b x l n e s h.0) w).took;
        replies = λ x h w. lawful.replied B x.handed.query x.handed.reply bytes h.1 w;
      })
      o begun k_a hB once ρ

  either : OneTime (items A ++ items B) → Bytes B.ids → {p : Place} → Takes p → Reported A B p
  either once bytes ρ =
      by_test (wrong_size B) (λ e₁. none (λ x h. clash e₁ (lawful.sized B x.handed.query x.handed.reply h.1)) ρ)
      (λ e₁. by_test (not_rising B) (λ e₂. none (λ x h. clash e₂ (lawful.rising B x.handed.query x.handed.reply h.1)) ρ)
      (λ e₂. some once bytes (own-items B bytes (e₁, e₂)) ρ))

pub true_and_complete_mixed : (Replies : Table → List ℕ → List ℕ → Type 0) → LawfulReplies Replies → TrueAndCompleteMixed Replies
true_and_complete_mixed Replies lawful A B a b bytes-A bytes-B once limit lent n e p ρ =
    let w = (unrefused-opening limit A a lent n e).checks in
    let k_a = kept A a bytes-A w.size w.order w.limits in
    either Replies A B a b lawful k_a (opening_within limit A a lent) (opening-begun limit A a k_a lent n e) once bytes-B ρ
