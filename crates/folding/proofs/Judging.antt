-- What each answer of the code says of a check, and the checks in their order.
use Prim.Native.Nat.{ℕ, ◌+◌, ◌*◌}
use mathlib.Core.Path.{◌≡◌, refl, sym, ◌∙◌}
use mathlib.Core.Bool.{Bool, true, false, not, ◌||◌}
use mathlib.Core.List.{List}
use native.Mathlib.Omega.{arith}
use lib.Dec.{ltb}
use lib.ListN.{length, take}
use lib.Seq.{length-take-le}
use borrow.Author.Tests.{not-true, not-false}
use Rattle.message.proofs.Exact.{by_test, differ}
use Rattle.table.specs.Answer.{Answer, answer, refused, refuse_if}
use Rattle.table.specs.Table.{Table, items, wrong_size, not_rising, judge_table}
use Rattle.table.specs.Code.{lent}
use Rattle.table.specs.Private.{Passed}
use Rattle.table.proofs.Tests.{or_false}
use Rattle.table.proofs.Checks.{size_holds}
use Rattle.ends.specs.Lists.{some}
use Rattle.fold.specs.Fold.{Lent, front, own_items, needed_ids, cannot_hold, wrong_needed, not_due, still_needed, judge_fold, inquired}
use Rattle.fold.proofs.Laying.{holds}

-- ---- what an answer of the code says

pub told-no : (x r : Bool) → r ≡ not x → r ≡ false → x ≡ true
told-no x r e f = not-false x (sym e ∙ f)

pub told-yes : (x r : Bool) → r ≡ not x → r ≡ true → x ≡ false
told-yes x r e f = not-true x (sym e ∙ f)

module _ (n : ℕ) (T : Table) (r : Bool) (e : r ≡ not (ltb (length T.times) n || ltb (length T.ids) (32 * n) || ltb 1048576 n)) where
  pub told_short : r ≡ false → cannot_hold n T ≡ true
  unfolding cannot_hold
  told_short f = told-no _ r e f

  pub told-holds : r ≡ true → cannot_hold n T ≡ false
  unfolding cannot_hold
  told-holds f = told-yes _ r e f

-- the items of the table as the code lends them
pub front-lent : (n : ℕ) (t d : List ℕ) → lent (take n t) (take (n * 32) d) ≡ front n (lent t d)
front-lent n t d = let e : 32 * n ≡ n * 32 = omega arith in rw e refl

pub front_right : (n : ℕ) (T : Table) → cannot_hold n T ≡ false → wrong_size (front n T) ≡ false
front_right n T e =
    let r = holds n T e in
    let s = length-take-le n T.times r.0 in
    size_holds (front n T) (rw s r.2) (rw (s, length-take-le (32 * n) T.ids r.1) (omega arith))

-- ---- checks 1 and 2, of the table and of the batch

module _ (n : ℕ) (T B : Table) where
  abbrev both_tables : Answer (Unit {0})
  both_tables = refuse_if 1 (cannot_hold n T || wrong_size B) (refuse_if 2 (not_rising (front n T) || not_rising B) (answer tt))

  pub own-size : cannot_hold n T ≡ true → refused 1 ≡ both_tables
  own-size e = rw e refl

  module _ (held : cannot_hold n T ≡ false) where
    pub batch_size : wrong_size B ≡ true → refused 1 ≡ both_tables
    batch_size e = rw (held, e) refl

    module _ (sized : wrong_size B ≡ false) where
      pub own_order : (k : ℕ) → refused k ≡ judge_table (front n T) (answer (tt {0})) → refused k ≡ both_tables
      own_order k e =
          by_test (not_rising (front n T))
          (λ g. rw (held, sized, g) (rw (front_right n T held, g) at e))
          (λ g. let z = rw (front_right n T held, g) at e in differ (cc))

      pub batch-order : Passed (front n T) → judge_table B (answer (tt {0})) ≡ both_tables
      batch-order p = rw (held, sized, p.1) refl

-- ---- two checks, one after the other

module _ (i j : ℕ) (a b : Bool) where
  -- a refusal does not depend on what follows
  pub both-refused : {X : Type 0} (next : Answer X) (k : ℕ) → refused k ≡ refuse_if i a (refuse_if j b (answer (tt {0}))) → refuse_if i a (refuse_if j b next) ≡ refused k
  both-refused next k e =
      by_test a (λ p. rw p (let z = rw p at e in cc)) (λ p. by_test b (λ q. rw (p, q) (let z = rw (p, q) at e in cc)) (λ q. let z = rw (p, q) at e in differ (cc)))

  pub both-passed : answer tt ≡ refuse_if i a (refuse_if j b (answer (tt {0}))) → (a ≡ false) × (b ≡ false)
  both-passed e =
      by_test a (λ p. let z = rw p at e in differ (cc)) (λ p. by_test b (λ q. let z = rw (p, q) at e in differ (cc)) (λ q. (p, q)))

-- ---- the inquiry, after each pair of checks

module _ (n : ℕ) (l : Lent) (batch : Table) where
  abbrev pub sizes : Bool
  sizes = cannot_hold n l.table || wrong_size batch

  abbrev pub orders : Bool
  orders = not_rising (front n l.table) || not_rising batch

  -- 16 and 17
  abbrev last : Answer (ℕ × ℕ)
  last =
      refuse_if 16 (some (not_due (needed_ids l) (own_items n l)) (items batch))
      (refuse_if 17 (cannot_hold (n + length batch.times) l.table)
      (answer (length (items batch), length (still_needed (items batch) (needed_ids l)))))

  pub tables_refuse : (k : ℕ) → refused k ≡ refuse_if 1 sizes (refuse_if 2 orders (answer (tt {0}))) → inquired n l batch ≡ refused k
  unfolding inquired judge_fold
  tables_refuse k e = both-refused 1 2 sizes orders (refuse_if 4 (wrong_needed l) (refuse_if 15 (not l.session.done) last)) k e

  module _ (passed : answer (tt {0}) ≡ refuse_if 1 sizes (refuse_if 2 orders (answer tt))) where
    pub tables-right : (cannot_hold n l.table ≡ false) × Passed (front n l.table) × Passed batch
    tables-right =
        let p = both-passed 1 2 sizes orders passed in
        let z = or_false (cannot_hold n l.table) (wrong_size batch) p.0 in
        let o = or_false (not_rising (front n l.table)) (not_rising batch) p.1 in
        (z.0, (front_right n l.table z.0, o.0), (z.1, o.1))

    pub list_refuses : (k : ℕ) → refused k ≡ refuse_if 4 (wrong_needed l) (refuse_if 15 (not l.session.done) (answer (tt {0}))) → inquired n l batch ≡ refused k
    unfolding inquired judge_fold
    list_refuses k e =
        let p = both-passed 1 2 sizes orders passed in
        rw (p.0, p.1) (both-refused 4 15 (wrong_needed l) (not l.session.done) last k e)

    pub both_pass : answer (tt {0}) ≡ refuse_if 4 (wrong_needed l) (refuse_if 15 (not l.session.done) (answer tt)) → inquired n l batch ≡ last
    unfolding inquired judge_fold
    both_pass e =
        let p = both-passed 1 2 sizes orders passed in
        let q = both-passed 4 15 (wrong_needed l) (not l.session.done) e in
        rw (p.0, p.1, q.0, q.1) refl
