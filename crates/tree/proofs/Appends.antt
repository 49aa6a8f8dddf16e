-- An append keeps a tree sound.
use mathlib.Core.Path.{◌≡◌, refl, sym, ap, ap₂, ◌∙◌}
use mathlib.Core.List.{List, [], ◌∷◌, ◌++◌}
use Prim.Native.Nat.{ℕ, zero, suc, ◌+◌, ◌-◌, ◌*◌, ◌/◌, ◌^◌, ◌≤◌, ◌<◌}
use native.Mathlib.Nat.{two-pow-succ}
use native.Mathlib.Omega.{arith}
use lib.Dec.{eqb, ltb}
use lib.ListN.{length, take, drop}
use borrow.Author.Tests.{eqb-true, eqb-false, ltb-true, ltb-false}
use Rattle.message.proofs.Exact.{by_test}
use Rattle.label.specs.Label.{Label, add, label_of, spell_label}
use Rattle.tree.specs.Tree.{label_at, put_label, renew, renew_above, appended}
use Rattle.tree.proofs.Bytes.{Fits, add-fits, one-fits, chunk, chunk_same, chunk_other, chunks_equal, put-length, label_same, label-other}
use Rattle.tree.proofs.Levels.{Sound, power, double}
use Rattle.tree.proofs.Depth.{powers}

-- one id more
last-id : (ids : List (List ℕ)) (id : List ℕ) → take 1 (drop (length ids) (ids ++ id ∷ [])) ≡ id ∷ []
last-id [] id = refl
last-id (x ∷ ids) id = last-id ids id

other-id : (ids : List (List ℕ)) (id : List ℕ) (p : ℕ) → ((p ≡ length ids) → ⊥) → take 1 (drop p (ids ++ id ∷ [])) ≡ take 1 (drop p ids)
other-id [] id zero n = absurd (n refl)
other-id [] id (suc zero) n = refl
other-id [] id (suc (suc p)) n = refl
other-id (x ∷ ids) id zero n = refl
other-id (x ∷ ids) id (suc p) n = other-id ids id p (λ e. n (ap suc e))

-- a sound tree, but for the label whose half is label `at`
record But (k : ℕ) (ids : List (List ℕ)) (at : ℕ) (tree : List ℕ) : Type 0 where
  size : length tree ≡ 40 * (2 ^ (k + 1) - 1)
  leaves : (p : ℕ) → p < 2 ^ k → label_at tree (2 ^ k - 1 + p) ≡ label_of (take 1 (drop p ids))
  halves : (i : ℕ) → suc i < 2 ^ k → ((2 * i + 1 ≡ at) → ⊥) → ((2 * i + 2 ≡ at) → ⊥) → label_at tree i ≡ add (label_at tree (2 * i + 1)) (label_at tree (2 * i + 2))

module _ (k : ℕ) (ids : List (List ℕ)) where
  room : (tree : List ℕ) (i : ℕ) → length tree ≡ 40 * (2 ^ (k + 1) - 1) → suc i < 2 ^ k + 2 ^ k → 40 * i + 40 ≤ length tree
  room tree i e h = omega (arith, double k)

  renewed : (at : ℕ) (tree : List ℕ) → 1 ≤ at → suc ((at - 1) / 2) < 2 ^ k → But k ids at tree → But k ids ((at - 1) / 2) (renew ((at - 1) / 2) tree)
  unfolding renew
  renewed at tree one h s =
      let u : ℕ = (at - 1) / 2 in
      let l : Label = add (label_at tree (2 * u + 1)) (label_at tree (2 * u + 2)) in
      let r : 40 * u + 40 ≤ length tree = room tree u s.size (omega arith) in
      let other = label-other tree u l r in
      record {
        size = put-length tree u l r ∙ s.size;
        leaves = λ p g. other (2 ^ k - 1 + p) (λ e. omega arith) ∙ s.leaves p g;
        halves = λ i g a b.
            by_test (eqb i u)
            (λ t. let e : i ≡ u = eqb-true i u t in
            rw e (label_same tree u l r (add-fits (label_at tree (2 * u + 1)) (label_at tree (2 * u + 2))) ∙ sym (ap₂ add (other (2 * u + 1) (λ x. omega arith)) (other (2 * u + 2) (λ x. omega arith)))))
            (λ t. let n : (i ≡ u → ⊥) = eqb-false i u t in
            other i n ∙ s.halves i g (λ e. n (omega arith)) (λ e. n (omega arith)) ∙ sym (ap₂ add (other (2 * i + 1) a) (other (2 * i + 2) b)));
      }

  renewed_all : (h at : ℕ) (tree : List ℕ) → h ≤ k → 2 ^ h ≤ suc at → suc at < 2 ^ h + 2 ^ h → But k ids at tree → Sound k ids (renew_above h at tree)
  unfolding renew_above
  renewed_all zero at tree g a b s =
      record { size = s.size; leaves = s.leaves; halves = λ i l. s.halves i l (λ e. omega arith) (λ e. omega arith) }
  renewed_all (suc h) at tree g a b s =
      let two = two-pow-succ h in
      let most = powers {i = suc h} {j = k} g in
      let one = power h in
      renewed_all h ((at - 1) / 2) (renew ((at - 1) / 2) tree) (omega arith) (omega arith) (omega arith) (renewed at tree (omega arith) (omega arith) s)

pub append-sound : (k : ℕ) (ids : List (List ℕ)) (id tree : List ℕ) → length ids < 2 ^ k → Sound k ids tree → Sound k (ids ++ id ∷ []) (appended k (length ids) id tree)
unfolding appended
append-sound k ids id tree h s =
    let n : ℕ = length ids in
    let at : ℕ = 2 ^ k - 1 + n in
    let l : Label = label_of (id ∷ []) in
    let one = power k in
    let r : 40 * at + 40 ≤ length tree = room k ids tree at s.size (omega arith) in
    let other = label-other tree at l r in
    let stored : But k (ids ++ id ∷ []) at (put_label at l tree) =
    record {
      size = put-length tree at l r ∙ s.size;
      leaves = λ p g.
          by_test (eqb p n)
          (λ t. let e : p ≡ n = eqb-true p n t in rw e (label_same tree at l r (one-fits id) ∙ sym (ap label_of (last-id ids id))))
          (λ t. let m : (p ≡ n → ⊥) = eqb-false p n t in other (2 ^ k - 1 + p) (λ e. m (omega arith)) ∙ s.leaves p g ∙ sym (ap label_of (other-id ids id p m)));
      halves = λ i g a b. other i (λ e. omega arith) ∙ s.halves i g ∙ sym (ap₂ add (other (2 * i + 1) a) (other (2 * i + 2) b));
    } in
    renewed_all k (ids ++ id ∷ []) k at (put_label at l tree) (omega arith) (omega arith) (omega arith) stored

-- ---- the bytes: each label is spelled as it is read

abbrev pub Spelled : List ℕ → Type 0
Spelled tree = (i : ℕ) → 40 * i + 40 ≤ length tree → chunk tree i ≡ spell_label (label_at tree i)

put-spelled : (tree : List ℕ) (i : ℕ) (l : Label) → 40 * i + 40 ≤ length tree → Fits l → Spelled tree → Spelled (put_label i l tree)
put-spelled tree i l r f s j h =
    by_test (eqb j i)
    (λ t. let e : j ≡ i = eqb-true j i t in rw e (chunk_same tree i l r ∙ sym (ap spell_label (label_same tree i l r f))))
    (λ t. let n : (j ≡ i → ⊥) = eqb-false j i t in
    chunk_other tree i l r j n ∙ s j (omega (arith, put-length tree i l r)) ∙ sym (ap spell_label (label-other tree i l r j n)))

module _ (k : ℕ) where
  renew-spelled : (h at : ℕ) (tree : List ℕ) → h ≤ k → suc at < 2 ^ h + 2 ^ h → length tree ≡ 40 * (2 ^ (k + 1) - 1) → Spelled tree → Spelled (renew_above h at tree)
  unfolding renew_above renew
  renew-spelled zero at tree g b e s = s
  renew-spelled (suc h) at tree g b e s =
      let two = two-pow-succ h in
      let most = powers {i = suc h} {j = k} g in
      let one = power h in
      let u : ℕ = (at - 1) / 2 in
      let l : Label = add (label_at tree (2 * u + 1)) (label_at tree (2 * u + 2)) in
      let r : 40 * u + 40 ≤ length tree = omega (arith, double k) in
      renew-spelled h u (put_label u l tree) (omega arith) (omega arith) (put-length tree u l r ∙ e)
      (put-spelled tree u l r (add-fits (label_at tree (2 * u + 1)) (label_at tree (2 * u + 2))) s)

  pub append-spelled : (n : ℕ) (id tree : List ℕ) → n < 2 ^ k → length tree ≡ 40 * (2 ^ (k + 1) - 1) → Spelled tree → Spelled (appended k n id tree)
  unfolding appended
  append-spelled n id tree h e s =
      let at : ℕ = 2 ^ k - 1 + n in
      let l : Label = label_of (id ∷ []) in
      let one = power k in
      let r : 40 * at + 40 ≤ length tree = omega (arith, double k) in
      renew-spelled k at (put_label at l tree) (omega arith) (omega arith) (put-length tree at l r ∙ e) (put-spelled tree at l r (one-fits id) s)

-- two sound trees over the same ids have the same labels, and spelled the same bytes
module _ (k : ℕ) (ids : List (List ℕ)) (t u : List ℕ) (st : Sound k ids t) (su : Sound k ids u) where
  same-labels : (m i : ℕ) → 2 ^ k + 2 ^ k ≤ suc i + m → suc i < 2 ^ k + 2 ^ k → label_at t i ≡ label_at u i
  same-labels zero i a b = absurd (omega arith)
  same-labels (suc m) i a b =
      by_test (ltb (suc i) (2 ^ k))
      (λ x. let l = ltb-true (suc i) (2 ^ k) x in
      st.halves i l ∙ ap₂ add (same-labels m (2 * i + 1) (omega arith) (omega arith)) (same-labels m (2 * i + 2) (omega arith) (omega arith)) ∙ sym (su.halves i l))
      (λ x. let l = ltb-false (suc i) (2 ^ k) x in
      let p : ℕ = suc i - 2 ^ k in
      let at : 2 ^ k - 1 + p ≡ i = omega (arith, power k) in
      ap (label_at t) (sym at) ∙ st.leaves p (omega arith) ∙ sym (su.leaves p (omega arith)) ∙ ap (label_at u) at)

  pub same_bytes : Spelled t → Spelled u → t ≡ u
  same_bytes pt pu =
      let two = double k in
      let et = st.size in
      let eu = su.size in
      chunks_equal (2 ^ (k + 1) - 1) t u et eu
      (λ i l. pt i (omega arith) ∙ ap spell_label (same-labels (2 ^ k + 2 ^ k) i (omega arith) (omega arith)) ∙ sym (pu i (omega arith)))
