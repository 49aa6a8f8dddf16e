-- The places stored, and then each label made from its two halves: that is the tree.
use mathlib.Core.Path.{◌≡◌, refl, sym, ap, ap₂, ◌∙◌, subst}
use mathlib.Core.List.{List}
use Prim.Native.Nat.{ℕ, zero, suc, ◌+◌, ◌-◌, ◌*◌, ◌^◌, ◌≤◌, ◌<◌}
use native.Mathlib.Nat.{two-pow-succ, le-mul_of_pos_right}
use native.Mathlib.Numerals.{add-one}
use native.Mathlib.Omega.{arith}
use lib.Dec.{eqb, ltb}
use lib.ListN.{length, take, drop, get_or}
use borrow.Author.Tests.{eqb-true, eqb-false, ltb-true, ltb-false}
use Rattle.message.proofs.Exact.{by_test}
use Rattle.label.specs.Label.{Label, empty, add, label_of, spell_label}
use Rattle.tree.specs.Tree.{places, levels, tree_over, label_at, put_label, renew}
use Rattle.tree.specs.Private.{placed, renew_below}
use Rattle.tree.proofs.Bytes.{chunk, chunk_label, chunk_same, chunk_other, put-length, chunks_equal}
use Rattle.tree.proofs.Levels.{power, double, value-last, value-upper, value-fits, over_chunk, over-length}
use Rattle.tree.proofs.Halves.{left-room, right_room}
use Rattle.tree.proofs.Runs.{Stands, whole-stands, left-stands, right_stands, is_opened}

-- a number below a power of two lies in one of the levels
record Level (k m : ℕ) : Type 0 where
  depth : ℕ
  most : depth ≤ k
  low : 2 ^ depth ≤ m
  high : m < 2 ^ depth + 2 ^ depth

level_of : (k m : ℕ) → 1 ≤ m → m < 2 ^ k + 2 ^ k → Level k m
level_of zero m a b = record { depth = 0; most = omega arith; low = omega arith; high = omega arith }
level_of (suc k) m a b =
    by_test (ltb m (2 ^ suc k))
    (λ t. let r = level_of k m a (omega (arith, two-pow-succ k, ltb-true m (2 ^ suc k) t)) in record { depth = r.depth; most = omega (arith, r.most); low = r.low; high = r.high })
    (λ t. record { depth = suc k; most = omega arith; low = ltb-false m (2 ^ suc k) t; high = b })

-- one turn of the loop over the places
pub place_turn : (size m : ℕ) (ids : List (List ℕ)) (tree t after : List ℕ) (l : Label) → t ≡ placed size ids m tree → l ≡ label_of (take 1 (drop m ids)) → after ≡ put_label (size - 1 + m) l t
    → after ≡ placed size ids (m + 1) tree
unfolding placed
place_turn size m ids tree t after l p e q = rw (add-one m) (q ∙ ap₂ (λ (x : Label) (y : List ℕ). put_label (size - 1 + m) x y) e p)

pub place_none : (size : ℕ) (ids : List (List ℕ)) (tree : List ℕ) → tree ≡ placed size ids 0 tree
unfolding placed
place_none size ids tree = refl

-- ---- one label made afresh

-- both its halves first
module _ (bytes level at : ℕ) (n : (level ≡ 0) → ⊥) (room : 40 * ((at + 2) * 2 ^ level) ≤ bytes + 40) where
  some : level ≡ suc (level - 1)
  some = by_test (eqb level 0) (λ t. absurd (n (eqb-true level 0 t))) (λ t. omega (arith, eqb-false level 0 t))

  halved : 40 * ((at + 2) * (2 ^ (level - 1) + 2 ^ (level - 1))) ≤ bytes + 40
  halved = rw (some, two-pow-succ) at room

  pub renew-room : 80 * at + 120 ≤ bytes
  renew-room = let least : at + 2 ≤ (at + 2) * 2 ^ (level - 1) = le-mul_of_pos_right (at + 2) (power (level - 1)) in let h = halved in omega arith

  pub renew-left : 40 * ((2 * at + 1 + 2) * 2 ^ (level - 1)) ≤ bytes + 40
  renew-left = left-room bytes at (2 ^ (level - 1)) halved

  pub renew_right : 40 * ((2 * at + 2 + 2) * 2 ^ (level - 1)) ≤ bytes + 40
  renew_right = right_room bytes at (2 ^ (level - 1)) halved

pub renewed_last : (level at : ℕ) (tree : List ℕ) → level ≡ 0 → tree ≡ renew_below level at tree
unfolding renew_below
renewed_last zero at tree e = refl
renewed_last (suc h) at tree e = absurd (omega arith)

pub renewed_pair : (level at : ℕ) (tree after : List ℕ) → level ≡ 1 → after ≡ renew at tree → after ≡ renew_below level at tree
unfolding renew_below
renewed_pair zero at tree after e p = absurd (omega arith)
renewed_pair (suc zero) at tree after e p = p
renewed_pair (suc (suc h)) at tree after e p = absurd (omega arith)

pub renewed_halves : (level at : ℕ) (tree t u after : List ℕ) → ((level ≡ 0) → ⊥) → t ≡ renew_below (level - 1) (2 * at + 1) tree → u ≡ renew_below (level - 1) (2 * at + 2) t → after ≡ renew at u
    → after ≡ renew_below level at tree
unfolding renew_below
renewed_halves zero at tree t u after n pt pu p = absurd (n refl)
renewed_halves (suc h) at tree t u after n pt pu p =
    let b : suc h - 1 ≡ h = omega arith in
    p ∙ ap (renew at) (pu ∙ ap₂ (λ (x : ℕ) (y : List ℕ). renew_below x (2 * at + 2) y) b (pt ∙ ap (λ (x : ℕ). renew_below x (2 * at + 1) tree) b))

-- ---- all of them

module _ (k : ℕ) (ids : List (List ℕ)) (h : length ids ≤ 2 ^ k) where
  abbrev value : ℕ → Label
  value i = get_or (levels k (places k ids)) i empty

  -- the label that belongs there, in the bytes of label j
  abbrev Right : List ℕ → ℕ → Type 0
  Right tree j = chunk tree j ≡ spell_label (value j)

  abbrev Whole : List ℕ → Type 0
  Whole tree = length tree ≡ 40 * (2 ^ (k + 1) - 1)

  -- one label stored: those that are right stay right
  put_right : (i j : ℕ) (tree : List ℕ) (l : Label) → 40 * i + 40 ≤ length tree → l ≡ value i → Right tree j → Right (put_label i l tree) j
  put_right i j tree l r e p =
      by_test (eqb j i)
      (λ t. let g : j ≡ i = eqb-true j i t in rw g (chunk_same tree i l r ∙ ap spell_label e))
      (λ t. chunk_other tree i l r j (eqb-false j i t) ∙ p)

  -- ---- the places

  place-room : (p : ℕ) (tree : List ℕ) → p < 2 ^ k → Whole tree → 40 * (2 ^ k - 1 + p) + 40 ≤ length tree
  place-room p tree l e = omega (arith, double k, power k)

  abbrev stored : ℕ → List ℕ → List ℕ
  stored m tree = placed (2 ^ k) ids m tree

  stored_length : (m : ℕ) (tree : List ℕ) → m ≤ 2 ^ k → Whole tree → Whole (stored m tree)
  unfolding placed
  stored_length zero tree l e = e
  stored_length (suc m) tree l e =
      let whole = stored_length m tree (omega arith) e in
      put-length (stored m tree) (2 ^ k - 1 + m) (label_of (take 1 (drop m ids))) (place-room m (stored m tree) (omega arith) whole) ∙ whole

  stored_right : (m : ℕ) (tree : List ℕ) → m ≤ 2 ^ k → Whole tree → (p : ℕ) → p < m → Right (stored m tree) (2 ^ k - 1 + p)
  unfolding placed
  stored_right zero tree l e p g = absurd (omega arith)
  stored_right (suc m) tree l e p g =
      let before : List ℕ = stored m tree in
      let one : Label = label_of (take 1 (drop m ids)) in
      let r = place-room m before (omega arith) (stored_length m tree (omega arith) e) in
      let same : one ≡ value (2 ^ k - 1 + m) = sym (value-last k ids h m (omega arith)) in
      by_test (eqb p m)
      (λ t. let x : p ≡ m = eqb-true p m t in rw x (chunk_same before (2 ^ k - 1 + m) one r ∙ ap spell_label same))
      (λ t. let n = eqb-false p m t in
      put_right (2 ^ k - 1 + m) (2 ^ k - 1 + p) before one r same (stored_right m tree (omega arith) e p (omega arith)))

  -- ---- the labels above them

  abbrev Leaves : List ℕ → Type 0
  Leaves tree = (p : ℕ) → p < 2 ^ k → Right tree (2 ^ k - 1 + p)

  room : (n i first : ℕ) (tree : List ℕ) → Stands k n i first → Whole tree → 40 * i + 40 ≤ length tree
  room n i first tree s e =
      let least : suc i ≤ suc i * 2 ^ n = le-mul_of_pos_right (suc i) (power n) in
      omega (arith, s.number, s.fits, power n, double k)

  sum-value : (i : ℕ) (tree : List ℕ) → suc i < 2 ^ k → Right tree (2 * i + 1) → Right tree (2 * i + 2) → add (label_at tree (2 * i + 1)) (label_at tree (2 * i + 2)) ≡ value i
  sum-value i tree l a b =
      ap₂ add (chunk_label tree (2 * i + 1) (value (2 * i + 1)) (value-fits k ids h (2 * i + 1) (omega arith)) a) (chunk_label tree (2 * i + 2) (value (2 * i + 2)) (value-fits k ids h (2 * i + 2) (omega arith)) b)
      ∙ sym (value-upper k ids h i l)

  -- a half made afresh: the size stays, what is right stays right, and its own label is right
  abbrev Made : ℕ → ℕ → List ℕ → Type 0
  Made n i tree = Whole (renew_below n i tree) × (((j : ℕ) → Right tree j → Right (renew_below n i tree) j) × Right (renew_below n i tree) i)

  made : (n i first : ℕ) (tree : List ℕ) → Stands k n i first → Whole tree → Leaves tree → Made n i tree
  unfolding renew_below renew
  made zero i first tree s e p =
      let at : 2 ^ k - 1 + first ≡ i = omega (arith, s.number, power k) in
      (e, ((λ j q. q), subst (λ (x : ℕ). Right tree x) at (p first (omega (arith, s.fits)))))
  made (suc n) i first tree s e p =
      let t : List ℕ = renew_below n (2 * i + 1) tree in
      let u : List ℕ = renew_below n (2 * i + 2) t in
      let a = made n (2 * i + 1) first tree (left-stands k n i first s) e p in
      let b = made n (2 * i + 2) (first + 2 ^ n) t (right_stands k n i first s) a.0 (λ q l. a.1.0 (2 ^ k - 1 + q) (p q l)) in
      let l : Label = add (label_at u (2 * i + 1)) (label_at u (2 * i + 2)) in
      let v : l ≡ value i = sum-value i u (is_opened k n i first s) (b.1.0 (2 * i + 1) a.1.1) b.1.1 in
      let r = room (suc n) i first u s b.0 in
      (put-length u i l r ∙ b.0, ((λ j q. put_right i j u l r v (b.1.0 j (a.1.0 j q))), chunk_same u i l r ∙ ap spell_label v))

  -- and so are all labels below it, d levels down
  made-below : (n d i first : ℕ) (tree : List ℕ) (j : ℕ) → Stands k n i first → Whole tree → Leaves tree → d ≤ n → suc i * 2 ^ d ≤ suc j → suc j < suc (suc i) * 2 ^ d → Right (renew_below n i tree) j
  unfolding renew_below renew
  made-below n zero i first tree j s e p l a b =
      let g : i ≡ j = omega arith in
      subst (λ (x : ℕ). Right (renew_below n i tree) x) g (made n i first tree s e p).1.1
  made-below zero (suc d) i first tree j s e p l a b = absurd (omega arith)
  made-below (suc n) (suc d) i first tree j s e p l a b =
      let left = left-stands k n i first s in
      let right = right_stands k n i first s in
      let t : List ℕ = renew_below n (2 * i + 1) tree in
      let u : List ℕ = renew_below n (2 * i + 2) t in
      let x = made n (2 * i + 1) first tree left e p in
      let leaves : Leaves t = λ q l. x.1.0 (2 ^ k - 1 + q) (p q l) in
      let y = made n (2 * i + 2) (first + 2 ^ n) t right x.0 leaves in
      let v = sum-value i u (is_opened k n i first s) (y.1.0 (2 * i + 1) x.1.1) y.1.1 in
      let low : suc i * (2 ^ d + 2 ^ d) ≤ suc j = rw two-pow-succ at a in
      let high : suc j < suc (suc i) * (2 ^ d + 2 ^ d) = rw two-pow-succ at b in
      put_right i j u (add (label_at u (2 * i + 1)) (label_at u (2 * i + 2))) (room (suc n) i first u s y.0) v
      (by_test (ltb (suc j) (suc (2 * i + 2) * 2 ^ d))
      (λ c. let g = ltb-true (suc j) (suc (2 * i + 2) * 2 ^ d) c in
      y.1.0 j (made-below n d (2 * i + 1) first tree j left e p (omega arith) (omega arith) (omega arith)))
      (λ c. let g = ltb-false (suc j) (suc (2 * i + 2) * 2 ^ d) c in
      made-below n d (2 * i + 2) (first + 2 ^ n) t j right x.0 leaves (omega arith) g (omega arith)))

  pub built-whole : (tree : List ℕ) → Whole tree → renew_below k 0 (placed (2 ^ k) ids (2 ^ k) tree) ≡ tree_over k ids
  built-whole tree e =
      let two = double k in
      let t : List ℕ = stored (2 ^ k) tree in
      let et = stored_length (2 ^ k) tree (omega arith) e in
      let leaves : Leaves t = stored_right (2 ^ k) tree (omega arith) e in
      chunks_equal (2 ^ (k + 1) - 1) (renew_below k 0 t) (tree_over k ids)
      (made k 0 0 t (whole-stands k) et leaves).0 (over-length k ids h)
      (λ j l. let r = level_of k (suc j) (omega arith) (omega arith) in
      made-below k r.depth 0 0 t j (whole-stands k) et leaves r.most (omega (arith, r.low)) (omega (arith, r.high))
      ∙ sym (over_chunk k ids h j (omega arith)))
