-- The items that a table and a batch both have: two lists that rise, gone through from their first items. The lower of the two first items is not in the other list.
use Prim.Native.Nat.{ℕ, zero, suc, ◌+◌, ◌≤◌, ◌<◌}
use mathlib.Core.Path.{◌≡◌, refl, sym, ◌∙◌}
use mathlib.Core.Bool.{Bool, true, false}
use mathlib.Core.List.{List, [], ◌∷◌, map}
use native.Mathlib.Omega.{arith}
use native.Mathlib.Numerals.{add-one}
use lib.Dec.{ltb}
use lib.ListN.{length, drop, get_or, drop_of_length-le}
use lib.Seq.{drop-cons}
use borrow.Author.Tests.{ltb-true, ltb-false}
use Rattle.message.specs.WellFormed.{Bytes}
use Rattle.message.proofs.Exact.{by_test}
use Rattle.table.specs.Table.{Item, key_of, Table, items}
use Rattle.table.specs.Private.{Passed, item_at}
use Rattle.table.proofs.Items.{items-length, items_at, items-whole}
use Rattle.table.proofs.Keys.{Ascending, keys_ascend}
use Rattle.cutting.proofs.Numbers.{Whole}
use Rattle.limit.proofs.Parts.{all_at}
use Rattle.ends.specs.Lists.{some}
use Rattle.fold.specs.Fold.{same_item}
use Rattle.fold.proofs.Merging.{Lacks, lacks_above}
use Rattle.fold.proofs.Commits.{same_key, same-item-key}

-- whether some item of B is in T
abbrev pub common : List Item → List Item → Bool
common T B = some (λ i. some (same_item i) T) B

-- ---- the first items

other : (i j : Item) → (key_of i ≡ key_of j → ⊥) → same_item i j ≡ false
other i j f = by_test (same_item i j) (λ e. absurd (f (same-item-key i j e))) (λ e. e)

lacks_none : (i : Item) (is : List Item) → Lacks (key_of i) is → some (same_item i) is ≡ false
unfolding some
lacks_none i [] l = refl
lacks_none i (j ∷ is) l = rw (other i j l.0) (lacks_none i is l.1)

skip-ours : (t : Item) (T B : List Item) → Lacks (key_of t) B → common (t ∷ T) B ≡ common T B
unfolding some
skip-ours t T [] l = refl
skip-ours t T (b ∷ B) l = rw (other b t (λ e. l.0 (sym e)), skip-ours t T B l.1) refl

skip-batch : (b : Item) (T B : List Item) → Lacks (key_of b) T → common T (b ∷ B) ≡ common T B
unfolding some
skip-batch b T B l = rw (lacks_none b T l) refl

both_first : (t b : Item) (T B : List Item) → Whole t → Whole b → key_of b ≡ key_of t → common (t ∷ T) (b ∷ B) ≡ true
unfolding some
both_first t b T B ht hb e = rw (same_key b t hb ht e) refl

none-ours : (B : List Item) → common [] B ≡ false
unfolding some
none-ours [] = refl
none-ours (b ∷ B) = none-ours B

none-batch : (T : List Item) → common T [] ≡ false
unfolding some
none-batch T = refl

-- ---- the items of a table from a place on

rest_ascends : (lo : ℕ) (is : List Item) (i : ℕ) (d : Item) → Ascending lo (map key_of is) → i < length is
    → Ascending (key_of (get_or is i d)) (map key_of (drop i is))
rest_ascends lo [] i d a h = absurd (omega arith)
rest_ascends lo (x ∷ is) zero d a h = (omega arith, a.1)
rest_ascends lo (x ∷ is) (suc i) d a h = rest_ascends (suc (key_of x)) is i d a.1 (omega arith)

module _ (T : Table) (i : ℕ) (h : i < length T.times) where
  first-there : drop i (items T) ≡ item_at T i ∷ drop (i + 1) (items T)
  first-there = rw (add-one i, drop-cons (items T) i (item_at T i) (rw (items-length T) h), items_at T i (item_at T i) h) refl

  -- an item below the one at place i is none of those from there on
  lacks_lower : Passed T → (x : Item) → key_of x < key_of (item_at T i) → Lacks (key_of x) (drop i (items T))
  lacks_lower p x l =
      lacks_above (key_of x) (key_of (item_at T i)) (drop i (items T)) l
      (rw (items_at T i (item_at T i) h) at (rest_ascends 0 (items T) i (item_at T i) (keys_ascend T p.1) (rw (items-length T) h)))

  whole-there : Bytes T.ids → Passed T → Whole (item_at T i)
  whole-there b p = rw (items_at T i (item_at T i) h) at (all_at Whole (item_at T i) i (items T) (items-whole T b p.0) (rw (items-length T) h))

-- ---- one turn of the walk

module _ (T B : Table) where
  -- whether an item of the batch from place j on is in the table from place i on
  abbrev pub common_from : ℕ → ℕ → Bool
  common_from i j = common (drop i (items T)) (drop j (items B))

  pub table-ends : (i j : ℕ) → length T.times ≤ i → common_from i j ≡ false
  table-ends i j h = rw (drop_of_length-le (items T) {i = i} (rw (items-length T) h)) (none-ours (drop j (items B)))

  pub batch-ends : (i j : ℕ) → length B.times ≤ j → common_from i j ≡ false
  batch-ends i j h = rw (drop_of_length-le (items B) {i = j} (rw (items-length B) h)) (none-batch (drop i (items T)))

  -- r and q are what the comparisons of the two first items answer
  module _ (ours : Passed T) (batch : Passed B) (i j : ℕ) (hi : i < length T.times) (hj : j < length B.times) where
    abbrev x : ℕ
    x = key_of (item_at T i)

    abbrev y : ℕ
    y = key_of (item_at B j)

    pub ours-lower : (r : Bool) → r ≡ ltb (key_of (item_at T i)) (key_of (item_at B j)) → r ≡ true → common_from i j ≡ common_from (i + 1) j
    ours-lower r e f =
        rw (first-there T i hi)
        (skip-ours (item_at T i) (drop (i + 1) (items T)) (drop j (items B)) (lacks_lower B j hj batch (item_at T i) (ltb-true x y (sym e ∙ f))))

    pub batch-lower : (q : Bool) → q ≡ ltb (key_of (item_at B j)) (key_of (item_at T i)) → q ≡ true → common_from i j ≡ common_from i (j + 1)
    batch-lower q e f =
        rw (first-there B j hj)
        (skip-batch (item_at B j) (drop i (items T)) (drop (j + 1) (items B)) (lacks_lower T i hi ours (item_at B j) (ltb-true y x (sym e ∙ f))))

    -- neither is lower: it is the same item
    pub both-here : (r q : Bool) → r ≡ ltb (key_of (item_at T i)) (key_of (item_at B j)) → r ≡ false → q ≡ ltb (key_of (item_at B j)) (key_of (item_at T i)) → q ≡ false
        → Bytes T.ids → Bytes B.ids → common_from i j ≡ true
    both-here r q e f g h bt bb =
        let same : y ≡ x = omega (arith, ltb-false x y (sym e ∙ f), ltb-false y x (sym g ∙ h)) in
        rw (first-there T i hi, first-there B j hj)
        (both_first (item_at T i) (item_at B j) (drop (i + 1) (items T)) (drop (j + 1) (items B)) (whole-there T i hi bt ours) (whole-there B j hj bb batch) same)
