-- Check 16, by the ids of the batch that are found on the needed list, and by the items that table and batch both have.
use Prim.Native.Nat.{ℕ}
use mathlib.Core.Path.{◌≡◌, refl, sym, ap, ◌∙◌}
use mathlib.Core.Bool.{Bool, true, false, not, ◌||◌}
use mathlib.Core.List.{List, [], ◌∷◌}
use native.Mathlib.Nat.{sub-zero}
use native.Mathlib.Omega.{arith}
use lib.ListN.{length}
use lib.Seq.{take_all}
use Rattle.message.specs.Code.{ids_in}
use Rattle.message.proofs.Exact.{by_test}
use Rattle.message.proofs.Forms.{ids-count}
use Rattle.table.specs.Lists.{keep}
use Rattle.table.specs.Table.{Item, Table, items, ids_of}
use Rattle.table.proofs.Items.{items-length, ids-run}
use Rattle.ends.specs.Lists.{some, same}
use Rattle.fold.specs.Fold.{same_item, not_due, still_needed}
use Rattle.removal.specs.Removing.{without, present}
use Rattle.removal.proofs.Surveying.{found-most}

-- the ids of the batch, as the code reads them
batch-ids : (B : Table) → ids_of (items B) ≡ ids_in (length B.times) B.ids
batch-ids B =
    let all = take_all (length B.times) (items B) (omega (arith, items-length B)) in
    sym (ap ids_of all) ∙ rw (sub-zero (length B.times)) at (ids-run B 0 (length B.times) (omega arith))

pub still_is : (B : Table) (ds : List (List ℕ)) → still_needed (items B) ds ≡ without (ids_in (length B.times) B.ids) ds
unfolding still_needed without
still_is B ds = rw (batch-ids B) refl

-- ---- ids that are not on the list

abbrev unlisted : List (List ℕ) → List ℕ → Bool
unlisted ds u = not (some (same u) ds)

all_there : (us ds : List (List ℕ)) → length (present us ds) ≡ length us → some (unlisted ds) us ≡ false
unfolding present keep some
all_there [] ds e = refl
all_there (u ∷ us) ds e =
    by_test (some (same u) ds)
    (λ p. let less = rw p at e in rw p (all_there us ds (omega arith)))
    (λ p. let less = rw p at e in absurd (omega (arith, found-most us ds)))

one_lacks : (us ds : List (List ℕ)) → (length (present us ds) ≡ length us → ⊥) → some (unlisted ds) us ≡ true
unfolding present keep some
one_lacks [] ds h = absurd (h refl)
one_lacks (u ∷ us) ds h =
    by_test (some (same u) ds)
    (λ p. rw p (one_lacks us ds (λ q. h (rw p (omega arith)))))
    (λ p. rw p refl)

by-ids : (ds : List (List ℕ)) (b : List Item) → some (λ (i : Item). unlisted ds i.id) b ≡ some (unlisted ds) (ids_of b)
unfolding some
by-ids ds [] = refl
by-ids ds (i ∷ b) = rw (by-ids ds b) refl

-- ---- both halves of the check

some_or : (p q : Item → Bool) (b : List Item) → some (λ i. p i || q i) b ≡ (some p b || some q b)
unfolding some
some_or p q [] = refl
some_or p q (i ∷ b) = rw (some_or p q b) (mixed (p i) (q i) (some p b) (some q b))
  where
    mixed : (w x y z : Bool) → ((w || x) || (y || z)) ≡ ((w || y) || (x || z))
    mixed true x y z = refl
    mixed false true true z = refl
    mixed false true false z = refl
    mixed false false y z = refl

module _ (ds : List (List ℕ)) (T : List Item) (B : Table) where
  parts : some (not_due ds T) (items B) ≡ (some (unlisted ds) (ids_in (length B.times) B.ids) || some (λ i. some (same_item i) T) (items B))
  unfolding not_due
  parts =
      some_or (λ i. unlisted ds i.id) (λ i. some (same_item i) T) (items B)
      ∙ ap (λ (x : Bool). x || some (λ i. some (same_item i) T) (items B)) (by-ids ds (items B) ∙ ap (some (unlisted ds)) (batch-ids B))

  module _ (found : ℕ) (told : found ≡ length (present (ids_in (length B.times) B.ids) ds)) where
    pub some-unlisted : (found ≡ length B.times → ⊥) → some (not_due ds T) (items B) ≡ true
    some-unlisted f =
        parts ∙ rw (one_lacks (ids_in (length B.times) B.ids) ds (λ e. f (told ∙ e ∙ ids-count (length B.times) B.ids))) refl

    module _ (all : found ≡ length B.times) (r : Bool) (common : r ≡ some (λ i. some (same_item i) T) (items B)) where
      pub due_is : some (not_due ds T) (items B) ≡ r
      due_is =
          parts ∙ rw (all_there (ids_in (length B.times) B.ids) ds (sym told ∙ all ∙ sym (ids-count (length B.times) B.ids))) (sym common)
