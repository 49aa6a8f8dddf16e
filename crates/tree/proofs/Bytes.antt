-- The labels of a tree, read and stored: 40 bytes each.
use mathlib.Core.Path.{◌≡◌, refl, sym, ap, ap₂, ◌∙◌, subst}
use mathlib.Core.List.{List, [], ◌∷◌, ◌++◌, append_assoc}
use Prim.Native.Nat.{ℕ, zero, suc, ◌+◌, ◌-◌, ◌*◌, ◌/◌, ◌^◌, ◌≤◌, ◌<◌}
use native.Mathlib.Nat.{pow-suc, div-lt_iff_lt-mul, mod-lt}
use native.Mathlib.Omega.{arith}
use lib.Arith.{lt-one}
use lib.Dec.{lit<, ltb}
use lib.ListN.{length, take, drop, get_or, length-append, length-drop}
use lib.Seq.{take_at, drop_at, take_all, take-take, drop-drop, take-append-le, drop-append-le, length-take-le, drop-append-add}
use borrow.Author.Tests.{ltb-true, ltb-false}
use Rattle.message.proofs.Exact.{by_test}
use Rattle.label.specs.Label.{Label, empty, add, label_of, little_endian, low_bytes, spell_label, read_label}
use Rattle.label.proofs.Hashing.{low-length, spell_length}
use Rattle.label.proofs.Sums.{label_path, label-fits}
use Rattle.tree.specs.Tree.{spell_labels, label_at, put_label}

-- ---- one label

-- a label that 40 bytes hold
abbrev pub Fits : Label → Type 0
Fits l = (l.sum < 2 ^ 256) × (l.count < 2 ^ 64)

pub empty-fits : Fits empty
empty-fits = (lit< tt, lit< tt)

pub add-fits : (l m : Label) → Fits (add l m)
unfolding add
add-fits l m = (mod-lt (l.sum + m.sum) (lit< tt), mod-lt (l.count + m.count) (lit< tt))

pub one-fits : (id : List ℕ) → Fits (label_of (id ∷ []))
unfolding label_of
one-fits id = (label-fits (id ∷ []), lit< tt)

number-back : (n v : ℕ) → v < 256 ^ n → little_endian (low_bytes n v) ≡ v
unfolding little_endian low_bytes
number-back zero v h = sym (lt-one h)
number-back (suc n) v h =
    let d : v / 256 < 256 ^ n = (div-lt_iff_lt-mul (lit< tt)).1 (subst (λ (x : ℕ). v < x) (pow-suc 256 n) h) in
    omega (arith, number-back n (v / 256) d)

spell_first : (l : Label) → Fits l → read_label (spell_label l) ≡ l
unfolding spell_label read_label
spell_first l f =
    let n = low-length 32 l.sum in
    label_path
    (ap little_endian (take_at (low_bytes 32 l.sum) (low_bytes 8 l.count) 32 n) ∙ number-back 32 l.sum f.0)
    (ap (λ (x : List ℕ). little_endian (take 8 x)) (drop_at (low_bytes 32 l.sum) (low_bytes 8 l.count) 32 n)
    ∙ ap little_endian (take_all 8 (low_bytes 8 l.count) (omega (arith, low-length 8 l.count))) ∙ number-back 8 l.count f.1)

-- ---- the bytes of label i

abbrev pub chunk : List ℕ → ℕ → List ℕ
chunk tree i = take 40 (drop (40 * i) tree)

drop-take : (a b : ℕ) (l : List ℕ) → a ≤ b → drop a (take b l) ≡ take (b - a) (drop a l)
drop-take zero b l h = let e : b ≡ b - 0 = omega arith in ap (λ (n : ℕ). take n l) e
drop-take (suc a) zero l h = absurd (omega arith)
drop-take (suc a) (suc b) [] h = sym (take_all (suc b - suc a) [] (omega arith))
drop-take (suc a) (suc b) (x ∷ l) h = let e : b - a ≡ suc b - suc a = omega arith in drop-take a b l (omega arith) ∙ ap (λ (n : ℕ). take n (drop a l)) e

pub chunk_at : (tree : List ℕ) (i : ℕ) → label_at tree i ≡ read_label (chunk tree i)
unfolding label_at read_label
chunk_at tree i =
    label_path
    (ap little_endian (sym (take-take 32 40 (drop (40 * i) tree) (omega arith))))
    (ap little_endian (sym (ap (take 8) (drop-take 32 40 (drop (40 * i) tree) (omega arith)) ∙ take-take 8 8 (drop 32 (drop (40 * i) tree)) (omega arith))))

pub chunk_label : (tree : List ℕ) (i : ℕ) (l : Label) → Fits l → chunk tree i ≡ spell_label l → label_at tree i ≡ l
chunk_label tree i l f e = chunk_at tree i ∙ ap read_label e ∙ spell_first l f

-- labels one behind another
pub spelled-length : (ls : List Label) → length (spell_labels ls) ≡ 40 * length ls
unfolding spell_labels
spelled-length [] = refl
spelled-length (l ∷ ls) = rw (length-append (spell_label l) (spell_labels ls), spell_length l, spelled-length ls) (omega arith)

next_chunk : (i : ℕ) → 40 * suc i ≡ 40 + 40 * i
next_chunk i = omega arith

pub spelled_chunk : (ls : List Label) (i : ℕ) (d : Label) → i < length ls → chunk (spell_labels ls) i ≡ spell_label (get_or ls i d)
unfolding spell_labels
spelled_chunk [] i d h = absurd (omega arith)
spelled_chunk (l ∷ ls) zero d h = take_at (spell_label l) (spell_labels ls) 40 (spell_length l)
spelled_chunk (l ∷ ls) (suc i) d h =
    rw (next_chunk i, ← drop-drop (40 * i) 40 (spell_label l ++ spell_labels ls), drop_at (spell_label l) (spell_labels ls) 40 (spell_length l)) (spelled_chunk ls i d (omega arith))

-- bytes are equal where all labels' bytes are
pub chunks_equal : (n : ℕ) (a b : List ℕ) → length a ≡ 40 * n → length b ≡ 40 * n → ((i : ℕ) → i < n → chunk a i ≡ chunk b i) → a ≡ b
chunks_equal zero [] [] ea eb h = refl
chunks_equal zero [] (x ∷ b) ea eb h = absurd (omega arith)
chunks_equal zero (x ∷ a) b ea eb h = absurd (omega arith)
chunks_equal (suc n) a b ea eb h =
    let next : (s : List ℕ) (i : ℕ) → chunk (drop 40 s) i ≡ chunk s (suc i) = λ s i. ap (take 40) (drop-drop (40 * i) 40 s ∙ ap (λ (k : ℕ). drop k s) (sym (next_chunk i))) in
    let rest : drop 40 a ≡ drop 40 b =
    chunks_equal n (drop 40 a) (drop 40 b) (omega (arith, length-drop 40 a)) (omega (arith, length-drop 40 b))
    (λ i l. next a i ∙ h (suc i) (omega arith) ∙ sym (next b i)) in
    sym (lib.ListN.take-append-drop 40 a) ∙ ap₂ (λ (x y : List ℕ). x ++ y) (h 0 (omega arith)) rest ∙ lib.ListN.take-append-drop 40 b

-- ---- a label stored

module _ (tree : List ℕ) (i : ℕ) (l : Label) (h : 40 * i + 40 ≤ length tree) where
  head_length : length (take (40 * i) tree) ≡ 40 * i
  head_length = length-take-le (40 * i) tree (omega arith)

  both-length : length (take (40 * i) tree ++ spell_label l) ≡ 40 * i + 40
  both-length = rw (length-append (take (40 * i) tree) (spell_label l), head_length, spell_length l) refl

  pub put-length : length (put_label i l tree) ≡ length tree
  unfolding put_label
  put-length =
      rw (length-append (take (40 * i) tree) (spell_label l ++ drop (40 * i + 40) tree), head_length, length-append (spell_label l) (drop (40 * i + 40) tree), spell_length l, length-drop (40 * i + 40) tree)
      (omega arith)

  pub chunk_same : chunk (put_label i l tree) i ≡ spell_label l
  unfolding put_label
  chunk_same =
      ap (take 40) (drop_at (take (40 * i) tree) (spell_label l ++ drop (40 * i + 40) tree) (40 * i) head_length)
      ∙ take_at (spell_label l) (drop (40 * i + 40) tree) 40 (spell_length l)

  chunk_before : (j : ℕ) → j < i → chunk (put_label i l tree) j ≡ chunk tree j
  unfolding put_label
  chunk_before j g =
      let head : List ℕ = take (40 * i) tree in
      let tail : List ℕ = spell_label l ++ drop (40 * i + 40) tree in
      let left : 40 ≤ length (drop (40 * j) head) = omega (arith, length-drop (40 * j) head, head_length) in
      ap (take 40) (drop-append-le (40 * j) head tail (omega (arith, head_length)))
      ∙ take-append-le 40 (drop (40 * j) head) tail left
      ∙ ap (take 40) (drop-take (40 * j) (40 * i) tree (omega arith))
      ∙ take-take 40 (40 * i - 40 * j) (drop (40 * j) tree) (omega arith)

  chunk_behind : (j : ℕ) → i < j → chunk (put_label i l tree) j ≡ chunk tree j
  unfolding put_label
  chunk_behind j g =
      let head : List ℕ = take (40 * i) tree ++ spell_label l in
      let tail : List ℕ = drop (40 * i + 40) tree in
      let m : ℕ = 40 * j - (40 * i + 40) in
      let e : 40 * j ≡ length head + m = omega (arith, both-length) in
      let f : 40 * i + 40 + m ≡ 40 * j = omega arith in
      ap (take 40) (ap₂ (λ (x : ℕ) (y : List ℕ). drop x y) e (sym (append_assoc (take (40 * i) tree) (spell_label l) tail)) ∙ drop-append-add head tail m ∙ drop-drop m (40 * i + 40) tree ∙ ap (λ (x : ℕ). drop x tree) f)

  pub chunk_other : (j : ℕ) → ((j ≡ i) → ⊥) → chunk (put_label i l tree) j ≡ chunk tree j
  chunk_other j n =
      by_test (ltb j i) (λ e. chunk_before j (ltb-true j i e))
      (λ e. by_test (ltb i j) (λ f. chunk_behind j (ltb-true i j f)) (λ f. absurd (n (omega (arith, ltb-false j i e, ltb-false i j f)))))

  pub label_same : Fits l → label_at (put_label i l tree) i ≡ l
  label_same f = chunk_label (put_label i l tree) i l f chunk_same

  pub label-other : (j : ℕ) → ((j ≡ i) → ⊥) → label_at (put_label i l tree) j ≡ label_at tree j
  label-other j n = chunk_at (put_label i l tree) j ∙ ap read_label (chunk_other j n) ∙ sym (chunk_at tree j)
