-- What the checks answer, and what the calls do then.
use mathlib.Core.Path.{◌≡◌, refl, sym, ap, ap₂, ◌∙◌}
use mathlib.Core.Bool.{Bool, true, false, not, ◌||◌}
use mathlib.Core.List.{List}
use Prim.Native.Nat.{ℕ, ◌+◌, ◌-◌, ◌*◌, ◌/◌, ◌^◌, ◌≤◌, ◌<◌}
use lib.Dec.{eqb, leb}
use lib.ListN.{length}
use borrow.Author.Tests.{eqb-true, ne_eqb, eq-eqb, not-false, le-leb, lt-leb, leb-false}
use Rattle.message.proofs.Exact.{by_test, differ}
use Rattle.table.specs.Answer.{Answer, answer, refused, refuse_if, verdict_of, bytes_in}
use Rattle.table.specs.Table.{Item, Table, items, ids_of, wrong_size, not_rising, judge_table}
use Rattle.table.specs.Private.{Passed}
use Rattle.table.proofs.Tests.{or_false}
use Rattle.table.proofs.Items.{right_size}
use Rattle.table.proofs.Checks.{judged-refused}
use Rattle.tree.specs.Tree.{Found, depth_of, depth_in, wrong_tree, none_free, tree_over, build, grown, appended, append, cut_to, visit, label_of_run}
use Rattle.tree.specs.Private.{wrong_bytes, tree_fault, place_fault, append_fault}
use Rattle.tree.proofs.Levels.{double}
use Rattle.tree.proofs.Rising.{grown_fails}

-- ---- three checks in a row

abbrev three : {A : Type 0} → Bool → Bool → Bool → A → Answer A
three a b c x = refuse_if 1 a (refuse_if 2 b (refuse_if 13 c (answer x)))

record None (a b c : Bool) : Type 0 where
  first : a ≡ false
  second : b ≡ false
  third : c ≡ false

none-met : (a b c : Bool) → answer (tt {0}) ≡ three a b c tt → None a b c
none-met true b c e = differ (cc)
none-met false true c e = differ (cc)
none-met false false true e = differ (cc)
none-met false false false e = record { first = refl; second = refl; third = refl }

-- what a call answers, and the tree that it leaves
abbrev Ends : Answer (List ℕ) → List ℕ → Answer (Unit {0}) → List ℕ → Type 0
Ends called before told after = (told ≡ verdict_of called) × (after ≡ bytes_in called before)

refuses : (a b c : Bool) (k : ℕ) (x before : List ℕ) → refused k ≡ three a b c (tt {0}) → Ends (three a b c x) before (refused k) before
refuses true b c k x before e = (e, refl)
refuses false true c k x before e = (e, refl)
refuses false false true k x before e = (e, refl)
refuses false false false k x before e = differ (cc)

does : (a b c : Bool) (x after before : List ℕ) → answer (tt {0}) ≡ three a b c tt → after ≡ x → Ends (three a b c x) before (answer tt) after
does true b c x after before e f = differ (cc)
does false true c x after before e f = differ (cc)
does false false true x after before e f = differ (cc)
does false false false x after before e f = (refl, f)

-- ---- the size of a tree

module _ (k len places : ℕ) (e : places ≡ 2 ^ k) where
  size-told : eqb len (40 * (places + places - 1)) ≡ eqb len (40 * (2 ^ (k + 1) - 1))
  size-told = ap (λ (x : ℕ). eqb len (40 * (x - 1))) (ap₂ (λ (x y : ℕ). x + y) e e ∙ sym (double k))

  pub size_wrong : (b : Bool) → b ≡ eqb len (40 * (places + places - 1)) → b ≡ false → not (eqb len (40 * (2 ^ (k + 1) - 1))) ≡ true
  size_wrong b p q = ap not (sym size-told ∙ sym p ∙ q)

  pub size_right : (b : Bool) → b ≡ eqb len (40 * (places + places - 1)) → b ≡ true → not (eqb len (40 * (2 ^ (k + 1) - 1))) ≡ false
  size_right b p q = ap not (sym size-told ∙ sym p ∙ q)

-- ---- build

module _ (T : Table) (bytes : ℕ) where
  pub build-table : (k : ℕ) → refused k ≡ judge_table T (answer (tt {0})) → refused k ≡ tree_fault T bytes
  unfolding tree_fault
  build-table k e = judged-refused T (refuse_if 13 (wrong_bytes (length T.times) bytes) (answer tt)) k e

  pub build-size : Passed T → wrong_bytes (length T.times) bytes ≡ true → refused 13 ≡ tree_fault T bytes
  unfolding tree_fault
  build-size p e = rw (p.0, p.1, e) refl

  pub build_free : Passed T → wrong_bytes (length T.times) bytes ≡ false → answer tt ≡ tree_fault T bytes
  unfolding tree_fault
  build_free p e = rw (p.0, p.1, e) refl

module _ (T : Table) (tree : List ℕ) where
  abbrev depth : ℕ
  depth = depth_of (length T.times)

  pub build-passed : answer tt ≡ tree_fault T (length tree) → (length T.ids ≡ 32 * length T.times) × ((length T.times ≤ 1048576) × (length tree ≡ 40 * (2 ^ (depth + 1) - 1)))
  unfolding tree_fault
  build-passed e =
      let n = none-met (wrong_size T) (not_rising T) (wrong_bytes (length T.times) (length tree)) e in
      let s = right_size T n.first in
      (s.0, (s.1, eqb-true _ _ (not-false (eqb (length tree) (40 * (2 ^ (depth + 1) - 1))) n.third)))

  pub build_refuses : (k : ℕ) → refused k ≡ tree_fault T (length tree) → Ends (build T tree) tree (refused k) tree
  unfolding tree_fault build wrong_tree
  build_refuses k e = refuses (wrong_size T) (not_rising T) (wrong_bytes (length T.times) (length tree)) k (tree_over depth (ids_of (items T))) tree e

  pub build_does : (after : List ℕ) → answer tt ≡ tree_fault T (length tree) → after ≡ tree_over depth (ids_of (items T)) → Ends (build T tree) tree (answer tt) after
  unfolding tree_fault build wrong_tree
  build_does after e f = does (wrong_size T) (not_rising T) (wrong_bytes (length T.times) (length tree)) (tree_over depth (ids_of (items T))) after tree e f

-- ---- append

module _ (n bytes : ℕ) where
  pub place_wrong : wrong_bytes n bytes ≡ true → refused 13 ≡ place_fault n bytes
  unfolding place_fault
  place_wrong e = rw e refl

  pub place-full : wrong_bytes n bytes ≡ false → 2 ^ depth_of n ≤ n → refused 13 ≡ place_fault n bytes
  unfolding place_fault none_free
  place-full e h = rw (e, le-leb (2 ^ depth_of n) n h) refl

  pub place_free : wrong_bytes n bytes ≡ false → n < 2 ^ depth_of n → answer tt ≡ place_fault n bytes
  unfolding place_fault none_free
  place_free e h = rw (e, lt-leb (2 ^ depth_of n) n h) refl

module _ (T : Table) (i : Item) (bytes : ℕ) where
  or_right : (a : Bool) → (a || true) ≡ true
  or_right true = refl
  or_right false = refl

  pub append-id : (length i.id ≡ 32 → ⊥) → refused 1 ≡ append_fault T i bytes
  unfolding append_fault
  append-id h = rw (ne_eqb (length i.id) 32 h, or_right (wrong_size T)) refl

  module _ (m : length i.id ≡ 32) where
    pub append-table : (k : ℕ) → refused k ≡ judge_table T (answer (tt {0})) → refused k ≡ append_fault T i bytes
    unfolding append_fault
    append-table k e =
        by_test (wrong_size T)
        (λ a. let g : k ≡ 1 = let z = rw a at e in cc in rw (g, a) refl)
        (λ a. by_test (not_rising T)
        (λ b. let g : k ≡ 2 = let z = rw (a, b) at e in cc in
        rw (g, a, eq-eqb (length i.id) 32 m, grown_fails T i (right_size T a).0 m b) refl)
        (λ b. let z = rw (a, b) at e in differ (cc)))

    module _ (p : Passed T) where
      -- b says whether the item is above the last
      pub append-order : (b : Bool) → not_rising (grown T i) ≡ not b → b ≡ false → refused 2 ≡ append_fault T i bytes
      unfolding append_fault
      append-order b e f = rw (p.0, eq-eqb (length i.id) 32 m, e ∙ ap not f) refl

      pub append-place : (b : Bool) (r : Answer (Unit {0})) → not_rising (grown T i) ≡ not b → b ≡ true → r ≡ place_fault (length T.times) bytes → r ≡ append_fault T i bytes
      unfolding append_fault
      append-place b r e f g = rw (p.0, eq-eqb (length i.id) 32 m, e ∙ ap not f) g

-- what the checks have shown: n items, an id, a tree of so many bytes
pub record Free (n : ℕ) (id : List ℕ) (bytes : ℕ) : Type 0 where
  pub whole : length id ≡ 32
  pub few : n ≤ 1048576
  pub size : bytes ≡ 40 * (2 ^ (depth_of n + 1) - 1)
  pub free : n < 2 ^ depth_of n

module _ (T : Table) (i : Item) (tree : List ℕ) where
  abbrev count : ℕ
  count = length T.times

  abbrev bad_size : Bool
  bad_size = wrong_size T || not (eqb (length i.id) 32)

  abbrev bad_tree : Bool
  bad_tree = wrong_bytes count (length tree) || none_free (depth_of count) count

  pub append-passed : answer tt ≡ append_fault T i (length tree) → Free count i.id (length tree)
  unfolding append_fault place_fault none_free
  append-passed e =
      let n = none-met bad_size (not_rising (grown T i)) bad_tree e in
      let a = or_false (wrong_size T) (not (eqb (length i.id) 32)) n.first in
      let b = or_false (wrong_bytes count (length tree)) (leb (2 ^ depth_of count) count) n.third in
      record {
        whole = eqb-true _ _ (not-false (eqb (length i.id) 32) a.1);
        few = (right_size T a.0).1;
        size = eqb-true _ _ (not-false (eqb (length tree) (40 * (2 ^ (depth_of count + 1) - 1))) b.0);
        free = leb-false (2 ^ depth_of count) count b.1;
      }

  pub append_refuses : (k : ℕ) → refused k ≡ append_fault T i (length tree) → Ends (append T i tree) tree (refused k) tree
  unfolding append_fault place_fault append wrong_tree
  append_refuses k e = refuses bad_size (not_rising (grown T i)) bad_tree k (appended (depth_of count) count i.id tree) tree e

  pub append_does : (after : List ℕ) → answer tt ≡ append_fault T i (length tree) → after ≡ appended (depth_of count) count i.id tree
      → Ends (append T i tree) tree (answer tt) after
  unfolding append_fault place_fault append wrong_tree
  append_does after e f = does bad_size (not_rising (grown T i)) bad_tree (appended (depth_of count) count i.id tree) after tree e f

-- ---- the label of a run

module _ (tree : List ℕ) (from to : ℕ) where
  abbrev levels_in : ℕ
  levels_in = depth_of (length tree / 80 + 1)

  abbrev bad_sized : Bool
  bad_sized = not (eqb (length tree) (40 * (2 ^ (levels_in + 1) - 1)))

  pub run_refuses : bad_sized ≡ true → refused 13 ≡ label_of_run tree from to
  unfolding label_of_run depth_in wrong_tree
  run_refuses e = rw e refl

  pub run-answers : (f : Found) (levels places end : ℕ) → bad_sized ≡ false → levels ≡ levels_in → places ≡ 2 ^ levels_in → end ≡ cut_to places to → f ≡ visit tree from end levels 0 0 → answer f ≡ label_of_run tree from to
  unfolding label_of_run depth_in wrong_tree
  run-answers f levels places end e l s g p = rw e (ap answer (p ∙ ap₂ (λ (x y : ℕ). visit tree from x y 0 0) (g ∙ ap (λ (x : ℕ). cut_to x to) s) l))

  pub run-size : bad_sized ≡ false → length tree ≡ 40 * (2 ^ (levels_in + 1) - 1)
  run-size e = eqb-true _ _ (not-false (eqb (length tree) (40 * (2 ^ (levels_in + 1) - 1))) e)
