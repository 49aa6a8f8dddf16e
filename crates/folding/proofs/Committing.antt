-- What an inquiry shows, and what a commit after it answers and leaves.
use Prim.Native.Nat.{ℕ, ◌+◌}
use mathlib.Core.Path.{◌≡◌, refl, sym, ap, ◌∙◌}
use mathlib.Core.List.{List, flatten}
use lib.ListN.{length}
use Rattle.message.specs.Code.{ids_in}
use Rattle.table.specs.Answer.{answer, refused}
use Rattle.table.specs.Table.{Table, items}
use Rattle.table.proofs.Items.{items-length}
use Rattle.ends.specs.Lists.{overwrite}
use Rattle.fold.specs.Fold.{Lent, own_items, needed_ids, merged, laid, still_needed, commit_leaves, inquired, committed}
use Rattle.fold.proofs.Commits.{Due, judged, judge_due, refused_commit}
use Rattle.fold.proofs.Agreement.{inquiry_agrees}
use Rattle.removal.specs.Removing.{without}
use Rattle.folding.proofs.Due.{still_is}

module _ (n : ℕ) (l : Lent) (B : Table) where
  pub inquiry_due : (entering staying : ℕ) → inquired n l B ≡ answer (entering, staying) → Due n l B × (entering ≡ length B.times)
  unfolding inquired
  inquiry_due entering staying e =
      let w = judged n l B _ e in
      let pair : ◌≡◌ {A = ℕ × ℕ} (length (items B), length (still_needed (items B) (needed_ids l))) (entering, staying) = let z = w.1 in cc in
      (w.0, sym (ap (λ (r : ℕ × ℕ). r.0) pair) ∙ items-length B)

  pub refused-inquiry : (k : ℕ) → inquired n l B ≡ refused k → committed n l B ≡ record { answer = refused k; lent = l }
  refused-inquiry k e =
      let p = ((inquiry_agrees n l B).no k).0 e in
      let q = refused_commit n l B k p in
      λ i. record { answer = p i; lent = q i }

  module _ (d : Due n l B) where
    abbrev left : List (List ℕ)
    left = without (ids_in (length B.times) B.ids) (needed_ids l)

    pub commit_is : (t : Table) → t ≡ laid (merged (own_items n l) (items B)) l.table → (needed : List ℕ) → needed ≡ overwrite (flatten left) l.needed
        → committed n l B ≡ record {
          answer = answer (n + length B.times);
          lent = record { table = t; session = record { marked = l.session.marked; needed = length left; done = l.session.done; label = l.session.label }; needed = needed };
        }
    unfolding committed commit_leaves
    commit_is t e needed f = rw (judge_due n l B _ d, items-length B, still_is B (needed_ids l), e, f) refl
