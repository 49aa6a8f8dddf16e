-- Comparing byte by byte, and searching id by id.
use Prim.Native.Nat.{ℕ, zero, suc, ◌+◌, ◌-◌, ◌*◌, ◌≤◌, ◌<◌}
use mathlib.Core.Path.{◌≡◌, refl, sym, ap, ◌∙◌}
use mathlib.Core.Bool.{Bool, true, false, ◌&&◌, ◌||◌}
use mathlib.Core.List.{List, [], ◌∷◌}
use native.Mathlib.Omega.{arith}
use lib.Dec.{eqb, ltb}
use lib.ListN.{length, take, drop}
use lib.Pointwise.{pointwise}
use lib.Seq.{drop-drop, take-take, length-take-le}
use borrow.Author.Tests.{ltb-true, ltb-false, eq-eqb, ne_eqb}
use Rattle.message.specs.Bound.{big_endian}
use Rattle.message.specs.Code.{ids_in}
use Rattle.message.specs.WellFormed.{Sized}
use Rattle.message.proofs.Exact.{by_test, bytes_take}
use Rattle.message.proofs.Order.{Small, small_bytes}
use Rattle.table.proofs.Words.{big_endian-take}
use Rattle.std.proofs.Common.{Option, Some, None, MatchOption}
use Rattle.ends.specs.Lists.{some, same}
use Rattle.ends.proofs.Reports.{same_number}
use Rattle.ends.proofs.Tables.{same_true}

or_true : (b : Bool) → (b || true) ≡ true
or_true true = refl
or_true false = refl

and_false : (b : Bool) → (b && false) ≡ false
and_false true = refl
and_false false = refl

-- ---- bytes

pub same_pointwise : (p q : List ℕ) → pointwise eqb p q ≡ same p q
unfolding same
same_pointwise [] [] = refl
same_pointwise [] (y ∷ q) = refl
same_pointwise (x ∷ p) [] = refl
same_pointwise (x ∷ p) (y ∷ q) = rw (same_pointwise p q) refl

-- ---- ids

-- ids whose first words differ are not the same
pub other_word : (d e : List ℕ) → (big_endian 8 d ≡ big_endian 8 e → ⊥) → same (take 32 d) (take 32 e) ≡ false
other_word d e h = by_test (same (take 32 d) (take 32 e)) (λ p. absurd (h (sym (first_word d) ∙ ap (big_endian 8) (same_true (take 32 d) (take 32 e) p) ∙ first_word e))) (λ p. p)
  where
    first_word : (l : List ℕ) → big_endian 8 (take 32 l) ≡ big_endian 8 l
    first_word l = sym (big_endian-take 8 (take 32 l)) ∙ ap (big_endian 8) (take-take 8 32 l (omega arith)) ∙ big_endian-take 8 l

-- two numbers, by which of them is below the other
pub neither_below : (x y : ℕ) → ltb x y ≡ false → ltb y x ≡ false → true ≡ eqb x y
neither_below x y e f = sym (eq-eqb x y (omega (arith, ltb-false x y e, ltb-false y x f)))

pub below_other : (x y : ℕ) → ltb x y ≡ true → false ≡ eqb x y
below_other x y e = sym (ne_eqb x y (λ q. omega (arith, ltb-true x y e)))

pub above_other : (x y : ℕ) → ltb y x ≡ true → false ≡ eqb x y
above_other x y e = sym (ne_eqb x y (λ q. omega (arith, ltb-true y x e)))

-- ids with the same number are the same
pub same-by-number : (d e : List ℕ) → Small d → Small e → 32 ≤ length d → 32 ≤ length e → same (take 32 d) (take 32 e) ≡ eqb (big_endian 32 d) (big_endian 32 e)
same-by-number d e sd se ld le =
    rw (← big_endian-take 32 d, ← big_endian-take 32 e) (same_number (take 32 d) (take 32 e) (sized d sd ld) (sized e se le))
  where
    sized : (l : List ℕ) → Small l → 32 ≤ length l → Sized 32 (take 32 l)
    sized l s h = (length-take-le 32 l h, (bytes_take 32 l (small_bytes l s)).0)

-- what a None comes with
pub or_none : {A P R : Type 0} (o : Option A) (Q : A → Type 0) → (P → R) → MatchOption o P Q → MatchOption o R Q
or_none None Q f h = f h
or_none (Some x) Q f h = h

-- the search from place i on
abbrev pub left : List ℕ → List ℕ → ℕ → ℕ → Bool
left d list count i = some (same d) (ids_in (count - i) (drop (i * 32) list))

pub all_left : (d list : List ℕ) (count : ℕ) → some (same d) (ids_in count list) ≡ left d list count 0
all_left d list count = let e : count - 0 ≡ count = omega arith in rw e refl

module _ (d list : List ℕ) (count i : ℕ) where
  more : i < count → left d list count i ≡ (same d (take 32 (drop (i * 32) list)) || left d list count (i + 1))
  unfolding some ids_in
  more h =
      let e : count - i ≡ suc (count - (i + 1)) = omega arith in
      let f : i * 32 + 32 ≡ (i + 1) * 32 = omega arith in
      rw (e, drop-drop 32 (i * 32) list, f) refl

  pub id-found : i < count → same d (take 32 (drop (i * 32) list)) ≡ true → left d list count i ≡ true
  id-found h e = more h ∙ rw e refl

  pub id_other : i < count → same d (take 32 (drop (i * 32) list)) ≡ false → left d list count i ≡ left d list count (i + 1)
  id_other h e = more h ∙ rw e refl

  pub no-id : count ≤ i → left d list count i ≡ false
  unfolding some ids_in
  no-id h = let e : count - i ≡ 0 = omega arith in rw e refl

module _ (d list : List ℕ) (count : ℕ) where
  -- an id that stands at place i is found from any place before it
  found_from : (n j i : ℕ) → j + n ≡ i → i < count → same d (take 32 (drop (i * 32) list)) ≡ true → left d list count j ≡ true
  found_from zero j i e h s = let q : j ≡ i = omega arith in rw q (id-found d list count i h s)
  found_from (suc n) j i e h s =
      let rest = found_from n (j + 1) i (omega arith) h s in
      more d list count j (omega arith) ∙ rw rest (or_true (same d (take 32 (drop (j * 32) list))))

  none_from : (n i : ℕ) → i + n ≡ count → ((j : ℕ) → i ≤ j → j < count → same d (take 32 (drop (j * 32) list)) ≡ false) → left d list count i ≡ false
  none_from zero i e none = no-id d list count i (omega arith)
  none_from (suc n) i e none = id_other d list count i (omega arith) (none i (omega arith) (omega arith)) ∙ none_from n (i + 1) (omega arith) (λ j h. none j (omega arith))

  stands_here : (i : ℕ) → i < count → same d (take 32 (drop (i * 32) list)) ≡ true → some (same d) (ids_in count list) ≡ true
  stands_here i h s = all_left d list count ∙ found_from i 0 i (omega arith) h s

  stands-nowhere : ((j : ℕ) → j < count → same d (take 32 (drop (j * 32) list)) ≡ false) → some (same d) (ids_in count list) ≡ false
  stands-nowhere none = all_left d list count ∙ none_from count 0 (omega arith) (λ j h. none j)

  -- the ids from place `from` on, then those before
  abbrev pub Between : ℕ → ℕ → Option ℕ → Type 0
  Between from to r = MatchOption r ((j : ℕ) → from ≤ j → j < to → same d (take 32 (drop (j * 32) list)) ≡ false) (λ i. (i < to) × (same d (take 32 (drop (i * 32) list)) ≡ true))

  pub found_in : (from : ℕ) (behind r : Option ℕ) → from ≤ count → Between from count behind → MatchOption behind (Between 0 from r) (λ i. r ≡ Some i)
      → MatchOption r (some (same d) (ids_in count list) ≡ false) (λ i. (i < count) × (some (same d) (ids_in count list) ≡ true))
  found_in from None None h b a = stands-nowhere (λ j l. by_test (ltb j from) (λ e. a j (omega arith) (ltb-true j from e)) (λ e. b j (ltb-false j from e) l))
  found_in from None (Some i) h b a = let l : i < from = a.0 in (omega arith, stands_here i (omega arith) a.1)
  found_in from (Some i) r h b a = rw a (b.0, stands_here i b.0 b.1)
