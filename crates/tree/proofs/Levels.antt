-- The levels of a tree: what a label is to those below it.
use mathlib.Core.Path.{◌≡◌, refl, sym, ap, ap₂, ◌∙◌, subst}
use mathlib.Core.List.{List, [], ◌∷◌, ◌++◌, map}
use Prim.Native.Nat.{ℕ, zero, suc, ◌+◌, ◌-◌, ◌*◌, ◌^◌, ◌≤◌, ◌<◌}
use native.Mathlib.Nat.{two-pow-succ, one-le-pow}
use native.Mathlib.Numerals.{add-one}
use native.Mathlib.Omega.{arith}
use lib.Dec.{lit<, ltb}
use lib.ListN.{length, take, drop, get_or, replicate, length-append, length-map, length-replicate, length-take, get_or-append}
use lib.Seq.{get_or-append-add}
use borrow.Author.Tests.{ltb-true, ltb-false}
use Rattle.message.proofs.Exact.{by_test}
use Rattle.label.specs.Label.{Label, empty, add, label_of, spell_label}
use Rattle.label.proofs.Sums.{label-none, label-fits}
use Rattle.tree.specs.Tree.{places, sums, levels, tree_over, label_at}
use Rattle.tree.proofs.Bytes.{Fits, add-fits, chunk, chunk_label, spelled-length, spelled_chunk}

pub power : (k : ℕ) → 1 ≤ 2 ^ k
power k = one-le-pow k 2 (lit< tt)

-- ---- one level and the one above it

sums-length : (m : ℕ) (ls : List Label) → length ls ≡ m + m → length (sums ls) ≡ m
unfolding sums
sums-length zero [] e = refl
sums-length (suc m) [] e = absurd (omega arith)
sums-length m (l ∷ []) e = absurd (omega arith)
sums-length zero (l ∷ n ∷ ls) e = absurd (omega arith)
sums-length (suc m) (l ∷ n ∷ ls) e = ap suc (sums-length m ls (omega arith))

sums_at : (ls : List Label) (p : ℕ) → 2 * p + 1 < length ls → get_or (sums ls) p empty ≡ add (get_or ls (2 * p) empty) (get_or ls (2 * p + 1) empty)
unfolding sums
sums_at [] p h = absurd (omega arith)
sums_at (l ∷ []) p h = absurd (omega arith)
sums_at (l ∷ n ∷ ls) zero h = refl
sums_at (l ∷ n ∷ ls) (suc p) h =
    let a : 2 * suc p ≡ suc (suc (2 * p)) = omega arith in
    let b : 2 * suc p + 1 ≡ suc (suc (2 * p + 1)) = omega arith in
    rw (b, a) (sums_at ls p (omega arith))

-- ---- all levels

pub levels-length : (k : ℕ) (ls : List Label) → length ls ≡ 2 ^ k → suc (length (levels k ls)) ≡ 2 ^ suc k
unfolding levels
levels-length zero ls e = ap suc e
levels-length (suc k) ls e =
    let half = sums-length (2 ^ k) ls (e ∙ two-pow-succ k) in
    rw (length-append (levels k (sums ls)) ls) (omega (arith, levels-length k (sums ls) half, two-pow-succ (suc k)))

pub last_level : (k : ℕ) (ls : List Label) → length ls ≡ 2 ^ k → (p : ℕ) → p < 2 ^ k → get_or (levels k ls) (2 ^ k - 1 + p) empty ≡ get_or ls p empty
unfolding levels
last_level zero ls e p h = let z : 2 ^ 0 - 1 + p ≡ p = omega arith in ap (λ (i : ℕ). get_or ls i empty) z
last_level (suc k) ls e p h =
    let half = sums-length (2 ^ k) ls (e ∙ two-pow-succ k) in
    let at : 2 ^ suc k - 1 + p ≡ length (levels k (sums ls)) + p = omega (arith, levels-length k (sums ls) half) in
    ap (λ (i : ℕ). get_or (levels k (sums ls) ++ ls) i empty) at ∙ get_or-append-add (levels k (sums ls)) ls p empty

pub upper_level : (k : ℕ) (ls : List Label) → length ls ≡ 2 ^ k → (i : ℕ) → suc i < 2 ^ k
    → get_or (levels k ls) i empty ≡ add (get_or (levels k ls) (2 * i + 1) empty) (get_or (levels k ls) (2 * i + 2) empty)
unfolding levels
upper_level zero ls e i h = absurd (omega arith)
upper_level (suc k) ls e i h =
    let half = sums-length (2 ^ k) ls (e ∙ two-pow-succ k) in
    let above : List Label = levels k (sums ls) in
    let size = levels-length k (sums ls) half in
    let double = two-pow-succ k in
    let front : (j : ℕ) → j < length above → get_or (above ++ ls) j empty ≡ get_or above j empty = λ j l. get_or-append above ls empty j l in
    by_test (ltb (suc i) (2 ^ k))
    (λ t. let l = ltb-true (suc i) (2 ^ k) t in
    front i (omega arith) ∙ upper_level k (sums ls) half i l ∙ sym (ap₂ add (front (2 * i + 1) (omega arith)) (front (2 * i + 2) (omega arith))))
    (λ t. let l = ltb-false (suc i) (2 ^ k) t in
    let p : ℕ = suc i - 2 ^ k in
    let at : i ≡ 2 ^ k - 1 + p = omega (arith, power k) in
    let left : 2 * i + 1 ≡ length above + 2 * p = omega arith in
    let right : 2 * i + 2 ≡ length above + (2 * p + 1) = omega arith in
    let back : (j q : ℕ) → j ≡ length above + q → get_or (above ++ ls) j empty ≡ get_or ls q empty = λ j q x. ap (λ (n : ℕ). get_or (above ++ ls) n empty) x ∙ get_or-append-add above ls q empty in
    front i (omega arith) ∙ ap (λ (n : ℕ). get_or above n empty) at ∙ last_level k (sums ls) half p (omega arith) ∙ sums_at ls p (omega arith)
    ∙ sym (ap₂ add (back (2 * i + 1) (2 * p) left) (back (2 * i + 2) (2 * p + 1) right)))

-- ---- the places

none_at : (n p : ℕ) → get_or (replicate n empty) p empty ≡ empty
none_at zero p = refl
none_at (suc n) zero = refl
none_at (suc n) (suc p) = none_at n p

abbrev one : List ℕ → Label
one id = label_of (id ∷ [])

filled : (ids : List (List ℕ)) (n p : ℕ) → get_or (map one ids ++ replicate n empty) p empty ≡ label_of (take 1 (drop p ids))
filled [] n zero = none_at n zero ∙ sym label-none
filled [] n (suc p) = none_at n (suc p) ∙ sym label-none
filled (id ∷ ids) n zero = refl
filled (id ∷ ids) n (suc p) = filled ids n p

module _ (k : ℕ) (ids : List (List ℕ)) where
  pub place_at : (p : ℕ) → get_or (places k ids) p empty ≡ label_of (take 1 (drop p ids))
  unfolding places
  place_at p = filled ids (2 ^ k - length ids) p

  pub places-length : length ids ≤ 2 ^ k → length (places k ids) ≡ 2 ^ k
  unfolding places
  places-length h =
      rw (length-append (map one ids) (replicate (2 ^ k - length ids) empty), length-map ids one, length-replicate (2 ^ k - length ids) empty) (omega arith)

pub place-fits : (p : ℕ) (ids : List (List ℕ)) → Fits (label_of (take 1 (drop p ids)))
unfolding label_of
place-fits p ids = (label-fits (take 1 (drop p ids)), omega (arith, length-take 1 (drop p ids)))

-- ---- what is stored

-- A tree of the right size whose last level has the labels of the places, and whose other labels are the sums of their halves.
pub record Sound (k : ℕ) (ids : List (List ℕ)) (tree : List ℕ) : Type 0 where
  pub size : length tree ≡ 40 * (2 ^ (k + 1) - 1)
  pub leaves : (p : ℕ) → p < 2 ^ k → label_at tree (2 ^ k - 1 + p) ≡ label_of (take 1 (drop p ids))
  pub halves : (i : ℕ) → suc i < 2 ^ k → label_at tree i ≡ add (label_at tree (2 * i + 1)) (label_at tree (2 * i + 2))

pub double : (k : ℕ) → 2 ^ (k + 1) ≡ 2 ^ k + 2 ^ k
double k = ap (λ (n : ℕ). 2 ^ n) (add-one k) ∙ two-pow-succ k

module _ (k : ℕ) (ids : List (List ℕ)) (h : length ids ≤ 2 ^ k) where
  abbrev all : List Label
  all = levels k (places k ids)

  all_length : suc (length all) ≡ 2 ^ k + 2 ^ k
  all_length = levels-length k (places k ids) (places-length k ids h) ∙ two-pow-succ k

  pub value-last : (p : ℕ) → p < 2 ^ k → get_or all (2 ^ k - 1 + p) empty ≡ label_of (take 1 (drop p ids))
  value-last p l = last_level k (places k ids) (places-length k ids h) p l ∙ place_at k ids p

  pub value-upper : (i : ℕ) → suc i < 2 ^ k → get_or all i empty ≡ add (get_or all (2 * i + 1) empty) (get_or all (2 * i + 2) empty)
  value-upper i l = upper_level k (places k ids) (places-length k ids h) i l

  pub value-fits : (i : ℕ) → suc i < 2 ^ k + 2 ^ k → Fits (get_or all i empty)
  value-fits i l =
      by_test (ltb (suc i) (2 ^ k))
      (λ t. subst Fits (sym (value-upper i (ltb-true (suc i) (2 ^ k) t))) (add-fits (get_or all (2 * i + 1) empty) (get_or all (2 * i + 2) empty)))
      (λ t. let g = ltb-false (suc i) (2 ^ k) t in
      let p : ℕ = suc i - 2 ^ k in
      let at : 2 ^ k - 1 + p ≡ i = omega (arith, power k) in
      subst Fits (sym (value-last p (omega arith)) ∙ ap (λ (j : ℕ). get_or all j empty) at) (place-fits p ids))

  pub over_chunk : (i : ℕ) → suc i < 2 ^ k + 2 ^ k → chunk (tree_over k ids) i ≡ spell_label (get_or all i empty)
  unfolding tree_over
  over_chunk i l = spelled_chunk all i empty (omega (arith, all_length))

  over-label : (i : ℕ) → suc i < 2 ^ k + 2 ^ k → label_at (tree_over k ids) i ≡ get_or all i empty
  over-label i l = chunk_label (tree_over k ids) i (get_or all i empty) (value-fits i l) (over_chunk i l)

  pub over-length : length (tree_over k ids) ≡ 40 * (2 ^ (k + 1) - 1)
  unfolding tree_over
  over-length = spelled-length all ∙ rw (double k) (omega (arith, all_length))

  pub over-sound : Sound k ids (tree_over k ids)
  over-sound = record {
    size = over-length;
    leaves = λ p l. over-label (2 ^ k - 1 + p) (omega (arith, power k)) ∙ value-last p l;
    halves = λ i l. over-label i (omega arith) ∙ value-upper i l ∙ sym (ap₂ add (over-label (2 * i + 1) (omega arith)) (over-label (2 * i + 2) (omega arith)));
  }

  pub over-spelled : (i : ℕ) → 40 * i + 40 ≤ length (tree_over k ids) → chunk (tree_over k ids) i ≡ spell_label (label_at (tree_over k ids) i)
  over-spelled i l =
      let h : suc i < 2 ^ k + 2 ^ k = omega (arith, over-length, double k, power k) in
      over_chunk i h ∙ sym (ap spell_label (over-label i h))
