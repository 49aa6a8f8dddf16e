-- Ids inserted into a list that rises, or left out of it: it stays so; so do its beginning and its end.
use Prim.Native.Nat.{ℕ, zero, suc, ◌≤◌, ◌<◌}
use mathlib.Core.Path.{◌≡◌, refl, ap}
use mathlib.Core.Bool.{Bool, true, false}
use mathlib.Core.List.{List, [], ◌∷◌, foldr}
use native.Mathlib.Omega.{arith}
use lib.Dec.{ltb, eqb}
use lib.ListN.{take, drop}
use borrow.Author.Tests.{ltb-true, ltb-false, lt-ltb, le-ltb, eqb-true, eqb-false}
use Rattle.message.specs.Bound.{big_endian}
use Rattle.message.specs.WellFormed.{All, Sized}
use Rattle.message.proofs.Exact.{by_test}
use Rattle.table.specs.Lists.{keep, rising}
use Rattle.table.proofs.Keys.{Ascending, ascends}
use Rattle.ends.specs.Lists.{same}
use Rattle.ends.specs.Opener.{insert}
use Rattle.ends.proofs.Tables.{same_true}
use Rattle.ends.proofs.Reports.{numbers, number_alone, same_refl, insert-sized}

-- a list of ids that rises strictly
pub record Sorted (l : List (List ℕ)) : Type 0 where
  pub sized : All (Sized 32) l
  pub rises : rising (numbers l) ≡ true

-- ---- two ids

-- ids with different numbers differ
pub other-number : (d e : List ℕ) → (big_endian 32 d ≡ big_endian 32 e → ⊥) → same d e ≡ false
other-number d e h = by_test (same d e) (λ p. absurd (h (ap (big_endian 32) (same_true d e p)))) (λ p. p)

pub by_order : {C : Type 0} (d e : List ℕ) → Sized 32 d → Sized 32 e
    → (big_endian 32 d < big_endian 32 e → C) → (d ≡ e → C) → (big_endian 32 e < big_endian 32 d → C) → C
by_order d e hd he before equal behind =
    by_test (ltb (big_endian 32 d) (big_endian 32 e)) (λ p. before (ltb-true _ _ p))
    (λ p. by_test (eqb (big_endian 32 d) (big_endian 32 e)) (λ q. equal (number_alone d e hd he (eqb-true _ _ q)))
    (λ q. behind (more (big_endian 32 d) (big_endian 32 e) (ltb-false _ _ p) (eqb-false _ _ q))))
  where
    more : (a b : ℕ) → b ≤ a → (a ≡ b → ⊥) → b < a
    more a b h g = omega arith

-- ---- one id

module _ (d e : List ℕ) (l : List (List ℕ)) where
  pub insert-before : big_endian 32 d < big_endian 32 e → insert d (e ∷ l) ≡ d ∷ e ∷ l
  unfolding insert
  insert-before h = rw (other-number d e (λ p. omega arith), lt-ltb (big_endian 32 d) (big_endian 32 e) h) refl

  pub insert-equal : d ≡ e → insert d (e ∷ l) ≡ e ∷ l
  unfolding insert
  insert-equal p = rw (p, same_refl e) refl

  pub insert-behind : big_endian 32 e < big_endian 32 d → insert d (e ∷ l) ≡ e ∷ insert d l
  unfolding insert
  insert-behind h = rw (other-number d e (λ p. omega arith), le-ltb (big_endian 32 d) (big_endian 32 e) (omega arith)) refl

pub insert-none : (d : List ℕ) → insert d [] ≡ d ∷ []
unfolding insert
insert-none d = refl

pub ascends_rise : (lo : ℕ) (l : List ℕ) → Ascending lo l → rising l ≡ true
unfolding rising
ascends_rise lo [] h = refl
ascends_rise lo (x ∷ []) h = refl
ascends_rise lo (x ∷ y ∷ l) h = rw (lt-ltb x y h.1.0) (ascends_rise (suc x) (y ∷ l) h.1)

pub sorted_ascends : (l : List (List ℕ)) → Sorted l → Ascending 0 (numbers l)
sorted_ascends l s = ascends (numbers l) s.rises

insert_ascends : (lo : ℕ) (d : List ℕ) (l : List (List ℕ)) → Sized 32 d → All (Sized 32) l → lo ≤ big_endian 32 d → Ascending lo (numbers l)
    → Ascending lo (numbers (insert d l))
insert_ascends lo d [] h g b a = rw (insert-none d) (b, tt)
insert_ascends lo d (e ∷ l) h g b a =
    by_order d e h g.0
    (λ p. rw (insert-before d e l p) (b, (p, a.1)))
    (λ p. rw (insert-equal d e l p) a)
    (λ p. rw (insert-behind d e l p) (a.0, insert_ascends (suc (big_endian 32 e)) d l h g.1 p a.1))

pub insert_sorted : (d : List ℕ) (l : List (List ℕ)) → Sized 32 d → Sorted l → Sorted (insert d l)
insert_sorted d l h s = record {
  sized = insert-sized d l h s.sized;
  rises = ascends_rise 0 (numbers (insert d l)) (insert_ascends 0 d l h s.sized (omega arith) (sorted_ascends l s));
}

pub added_sorted : (l us : List (List ℕ)) → All (Sized 32) us → Sorted l → Sorted (foldr insert l us)
added_sorted l [] h s = s
added_sorted l (u ∷ us) h s = insert_sorted u (foldr insert l us) h.0 (added_sorted l us h.1 s)

-- ---- ids left out

-- a part of a list that rises does so
keep_ascends : (p : List ℕ → Bool) (lo hi : ℕ) (l : List (List ℕ)) → lo ≤ hi → Ascending hi (numbers l) → Ascending lo (numbers (keep p l))
unfolding keep
keep_ascends p lo hi [] h a = tt
keep_ascends p lo hi (d ∷ l) h a =
    let b = a.0 in
    by_test (p d)
    (λ e. rw e (omega arith, keep_ascends p (suc (big_endian 32 d)) (suc (big_endian 32 d)) l (omega arith) a.1))
    (λ e. rw e (keep_ascends p lo (suc (big_endian 32 d)) l (omega arith) a.1))

pub keep-rises : (p : List ℕ → Bool) (l : List (List ℕ)) → rising (numbers l) ≡ true → rising (numbers (keep p l)) ≡ true
keep-rises p l h = ascends_rise 0 (numbers (keep p l)) (keep_ascends p 0 0 l (omega arith) (ascends (numbers l) h))

front_ascends : (lo n : ℕ) (l : List (List ℕ)) → Ascending lo (numbers l) → Ascending lo (numbers (take n l))
front_ascends lo zero l a = tt
front_ascends lo (suc n) [] a = tt
front_ascends lo (suc n) (d ∷ l) a = (a.0, front_ascends (suc (big_endian 32 d)) n l a.1)

pub front-rises : (n : ℕ) (l : List (List ℕ)) → rising (numbers l) ≡ true → rising (numbers (take n l)) ≡ true
front-rises n l e = ascends_rise 0 (numbers (take n l)) (front_ascends 0 n l (ascends (numbers l) e))

back-rises-from : (lo n : ℕ) (l : List (List ℕ)) → Ascending lo (numbers l) → rising (numbers (drop n l)) ≡ true
back-rises-from lo zero l a = ascends_rise lo (numbers l) a
back-rises-from lo (suc n) [] a = ascends_rise lo [] tt
back-rises-from lo (suc n) (d ∷ l) a = back-rises-from (suc (big_endian 32 d)) n l a.1

pub back-rises : (n : ℕ) (l : List (List ℕ)) → rising (numbers l) ≡ true → rising (numbers (drop n l)) ≡ true
back-rises n l e = back-rises-from 0 n l (ascends (numbers l) e)
