-- Of ids, how many are in a list that rises, and how many of the list are none of them, window by window.
use Prim.Native.Nat.{ℕ, suc, ◌+◌, ◌*◌, ◌≤◌}
use mathlib.Core.Path.{◌≡◌, refl, sym, ap, ◌∙◌}
use mathlib.Core.Bool.{true, false}
use mathlib.Core.List.{List, [], ◌∷◌, ◌++◌}
use native.Mathlib.Omega.{arith}
use lib.ListN.{length, drop}
use Rattle.message.specs.Bound.{big_endian}
use Rattle.message.specs.Code.{ids_in}
use Rattle.message.proofs.Exact.{by_test}
use Rattle.theory.proofs.Tests.{clash}
use Rattle.table.specs.Lists.{keep, rising}
use Rattle.table.proofs.Ids.{ids-take}
use Rattle.table.proofs.Keys.{Ascending, ascends}
use Rattle.table.proofs.Tests.{or_false}
use Rattle.cutting.proofs.Projection.{keep-length}
use Rattle.ends.specs.Lists.{some, same}
use Rattle.ends.proofs.Tables.{same_true}
use Rattle.ends.proofs.Lists.{some-append, ids-parts}
use Rattle.ends.proofs.Reports.{numbers}
use Rattle.ends.proofs.Inserting.{front-rises}
use Rattle.sortedids.proofs.Places.{absent_id}
use Rattle.removal.specs.Removing.{without, present}
use Rattle.removal.proofs.Removing.{none_left, count_next}

-- no id is in two parts of a list that rises
apart : (lo : ℕ) (u : List ℕ) (k l : List (List ℕ)) → Ascending lo (numbers (k ++ l)) → some (same u) k ≡ true → some (same u) l ≡ true → ⊥
unfolding some
apart lo u [] l a e f = clash e refl
apart lo u (d ∷ k) l a e f =
    by_test (same u d)
    (λ p.
    let behind : some (same u) (k ++ l) ≡ false = absent_id u (suc (big_endian 32 d)) (k ++ l) a.1 (rw (same_true u d p) (omega arith)) in
    clash f (or_false (some (same u) k) (some (same u) l) (sym (some-append (same u) k l) ∙ behind)).1)
    (λ p. apart (suc (big_endian 32 d)) u k l a.1 (rw p at e) f)

present-parts : (us k l : List (List ℕ)) → ((u : List ℕ) → some (same u) k ≡ true → some (same u) l ≡ true → ⊥)
    → length (present us (k ++ l)) ≡ length (present us k) + length (present us l)
unfolding present keep
present-parts [] k l h = refl
present-parts (u ∷ us) k l h =
    let rest = present-parts us k l h in
    by_test (some (same u) k)
    (λ e. by_test (some (same u) l) (λ f. absurd (h u e f)) (λ f. rw (some-append (same u) k l, e, f) (omega arith)))
    (λ e. by_test (some (same u) l) (λ f. rw (some-append (same u) k l, e, f) (omega arith)) (λ f. rw (some-append (same u) k l, e, f) rest))

none-present : (us : List (List ℕ)) → present us [] ≡ []
unfolding present keep some
none-present [] = refl
none-present (u ∷ us) = none-present us

-- the first lo ids of the list are passed
pub record Surveyed (us : List (List ℕ)) (list : List ℕ) (found left lo : ℕ) : Type 0 where
  pub in_list : found ≡ length (present us (ids_in lo list))
  pub others : left ≡ length (without us (ids_in lo list))

pub found-most : (us ds : List (List ℕ)) → length (present us ds) ≤ length us
unfolding present
found-most us ds = keep-length (λ u. some (same u) ds) us

pub surveyed_none : (us : List (List ℕ)) (list : List ℕ) → Surveyed us list 0 0 0
unfolding ids_in
surveyed_none us list = record { in_list = ap length (sym (none-present us)); others = none_left us list }

-- how many are in the ids of one window more
pub found-next : (us : List (List ℕ)) (list : List ℕ) (size lo count : ℕ) → rising (numbers (ids_in size list)) ≡ true → lo + count ≤ size
    → (found f : ℕ) → found ≡ length (present us (ids_in lo list)) → f ≡ length (present us (ids_in count (drop (lo * 32) list)))
    → found + f ≡ length (present us (ids_in (lo + count) list))
found-next us list size lo count rises inside found f e g =
    let window = ids_in count (drop (lo * 32) list) in
    let front : rising (numbers (ids_in (lo + count) list)) ≡ true = rw (← ids-take (lo + count) size list inside) (front-rises (lo + count) (ids_in size list) rises) in
    let parts = present-parts us (ids_in lo list) window (λ u. apart 0 u (ids_in lo list) window (ascends _ (rw (ids-parts lo count list) at front))) in
    rw (ids-parts lo count list) (omega (arith, parts))

pub surveyed_next : (us : List (List ℕ)) (list : List ℕ) (size lo count : ℕ) → rising (numbers (ids_in size list)) ≡ true → lo + count ≤ size
    → (found left f l : ℕ) → Surveyed us list found left lo → f ≡ length (present us (ids_in count (drop (lo * 32) list))) → l ≡ length (without us (ids_in count (drop (lo * 32) list)))
    → Surveyed us list (found + f) (left + l) (lo + count)
surveyed_next us list size lo count rises inside found left f l s e g = record {
  in_list = found-next us list size lo count rises inside found f s.in_list e;
  others = count_next us lo count list left l s.others g;
}
