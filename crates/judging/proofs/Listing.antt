-- Lists of ids in bytes, in the same order and as sets; what a range says, by the own items there.
use Prim.Native.Nat.{ℕ, zero, suc, ◌+◌, ◌-◌, ◌*◌, ◌≤◌, ◌<◌}
use mathlib.Core.Path.{◌≡◌, refl, sym, ap, ◌∙◌}
use mathlib.Core.Bool.{Bool, true, false, cond}
use mathlib.Core.List.{List}
use native.Mathlib.Omega.{arith}
use lib.Dec.{ltb, eqb}
use lib.Pointwise.{pointwise}
use lib.ListN.{length, take, drop, get_or}
use lib.Seq.{drop-drop}
use borrow.Author.Tests.{ltb-true, ltb-false}
use Rattle.message.specs.Message.{Payload, fingerprint, ids}
use Rattle.message.specs.Code.{ids_in}
use Rattle.theory.proofs.Tests.{by_test, and_intro}
use Rattle.reader.proofs.Listing.{part-from}
use Rattle.table.specs.Lists.{every}
use Rattle.table.specs.Table.{Item, Table}
use Rattle.table.specs.Private.{Passed}
use Rattle.table.proofs.Ids.{ids-part}
use Rattle.table.proofs.Items.{ids-run}
use Rattle.cutting.specs.Private.{run}
use Rattle.cutting.specs.Cutting.{fingerprint_of}
use Rattle.ends.specs.Lists.{some, same}
use Rattle.ends.proofs.Tables.{same_true}
use Rattle.idlist.proofs.Searching.{same_pointwise}
use Rattle.index.specs.Lookup.{listed}
use Rattle.judge.specs.Judge.{is_skip, same_ids, of_table, divides, answers}
use Rattle.judge.proofs.Exact.{ids-same}
use Rattle.judging.specs.Private.{Noted}

-- ---- the same ids

pub same_lists : (l own : List (List ℕ)) → l ≡ own → same_ids l own ≡ true
same_lists l own e = rw e (ids-same own own (λ d. (λ m. m, λ m. m)))

module _ (l own : List (List ℕ)) where
  pub listed_else : false ≡ every (λ d. some (same d) own) l → false ≡ same_ids l own
  unfolding same_ids
  listed_else e = rw (← e) refl

  pub listed-both : (b : Bool) → true ≡ every (λ d. some (same d) own) l → b ≡ every (λ d. some (same d) l) own → b ≡ same_ids l own
  unfolding same_ids
  listed-both b e d = rw (← e) d

-- lists that begin with the same bytes have the same ids there
pub same_front : (n : ℕ) (l own : List ℕ) → pointwise eqb (take (n * 32) l) (take (n * 32) own) ≡ true → ids_in n l ≡ ids_in n own
same_front n l own e =
    let is : take (n * 32) l ≡ take (n * 32) own = same_true _ _ (sym (same_pointwise _ _) ∙ e) in
    sym (ids-part n l) ∙ ap (ids_in n) is ∙ ids-part n own

-- ---- every id of a list, by its place

module _ (test : List ℕ → Bool) where
  pub all_ids : (n : ℕ) (l : List ℕ) → ((k : ℕ) → k < n → test (take 32 (drop (k * 32) l)) ≡ true) → every test (ids_in n l) ≡ true
  unfolding ids_in every
  all_ids zero l h = refl
  all_ids (suc n) l h =
      and_intro (h 0 (omega arith)) (all_ids n (drop 32 l) (λ k lt. let e : 32 + k * 32 ≡ suc k * 32 = omega arith in rw (drop-drop (k * 32) 32 l, e) (h (suc k) (omega arith))))

  pub one_fails : (n : ℕ) (l : List ℕ) (k : ℕ) → k < n → test (take 32 (drop (k * 32) l)) ≡ false → every test (ids_in n l) ≡ false
  unfolding ids_in every
  one_fails zero l k lt e = absurd (omega arith)
  one_fails (suc n) l zero lt e = rw e refl
  one_fails (suc n) l (suc k) lt e =
      let f : 32 + k * 32 ≡ suc k * 32 = omega arith in
      let rest = one_fails n (drop 32 l) k (omega arith) (rw (drop-drop (k * 32) 32 l, f) e) in
      by_test (test (take 32 l)) (λ t. rw (t, rest) refl) (λ t. rw t refl)

-- ---- ids looked up block by block

flag_true : (b : Bool) (x : ℕ) → x ≡ cond b 1 0 → (x ≡ 0 → ⊥) → b ≡ true
flag_true true x e h = refl
flag_true false x e h = absurd (h e)

flag_false : (b : Bool) (x : ℕ) → x ≡ cond b 1 0 → x ≡ 0 → b ≡ false
flag_false true x e h = absurd (omega arith)
flag_false false x e h = refl

module _ (list : List ℕ) (count : ℕ) (ids : List ℕ) where
  -- the ids before the i-th are listed
  abbrev pub ListedTo : ℕ → Type 0
  ListedTo i = (k : ℕ) → k < i → listed list count ids k ≡ true

  -- what is found of a block of n ids from the i-th on
  abbrev pub LookedUp : ℕ → ℕ → List ℕ → Type 0
  LookedUp i n found = (j : ℕ) → j < n → get_or found j 0 ≡ cond (listed list count (take (length ids - i * 32) (drop (i * 32) ids)) j) 1 0

  at_block : (i j : ℕ) → listed list count (take (length ids - i * 32) (drop (i * 32) ids)) j ≡ listed list count ids (i + j)
  at_block i j =
      let e : i * 32 + j * 32 ≡ (i + j) * 32 = omega arith in
      rw (part-from ids (i * 32), drop-drop (j * 32) (i * 32) ids, e) refl

  pub block_listed : (i n : ℕ) (found : List ℕ) → LookedUp i n found → Noted found n true → ListedTo i → ListedTo (i + n)
  block_listed i n found look all before k lt =
      by_test (ltb k i)
      (λ e. before k (ltb-true k i e))
      (λ e. let le = ltb-false k i e in
      let is : i + (k - i) ≡ k = omega arith in
      let flag = flag_true _ (get_or found (k - i) 0) (look (k - i) (omega arith)) (all (k - i) (omega arith)) in
      rw is at (sym (at_block i (k - i)) ∙ flag))

  pub block-unlisted : (i n total : ℕ) (found : List ℕ) → i + n ≤ total → LookedUp i n found → Noted found n false
      → every (λ d. some (same d) (ids_in count list)) (ids_in total ids) ≡ false
  block-unlisted i n total found fits look w =
      let flag = flag_false _ (get_or found w.0 0) (look w.0 w.1) w.2 in
      let lt = w.1 in
      one_fails (λ d. some (same d) (ids_in count list)) total ids (i + w.0) (omega arith) (sym (at_block i w.0) ∙ flag)

  pub all_listed : (i n : ℕ) → n ≤ i → ListedTo i → every (λ d. some (same d) (ids_in count list)) (ids_in n ids) ≡ true
  all_listed i n h before = all_ids (λ d. some (same d) (ids_in count list)) n ids (λ k lt. before k (omega arith))

-- ---- a range of the reply, and of the query

pub list_of_table : (T : Table) → Passed T → (lo hi count at : ℕ) (m : List ℕ) → hi ≤ length T.times
    → same_ids (ids_in count (take (length m - at) (drop at m))) (ids_in (hi - lo) (take (length T.ids - lo * 32) (drop (lo * 32) T.ids))) ≡ of_table (run T lo hi) (ids (ids_in count (drop at m)))
unfolding of_table
list_of_table T ok lo hi count at m h = rw (part-from m at, part-from T.ids (lo * 32), ids-run T lo hi h) refl

pub print_of_table : (own : List Item) (f : List ℕ) → same f (fingerprint_of own) ≡ of_table own (fingerprint f)
unfolding of_table
print_of_table own f = refl

module _ (own : List Item) (f : List ℕ) (ps : List Payload) where
  pub asks_equal : true ≡ same f (fingerprint_of own) → every is_skip ps ≡ answers own (fingerprint f) ps
  unfolding answers
  asks_equal e = rw (← e) refl

  pub asks_other : false ≡ same f (fingerprint_of own) → divides ps ≡ answers own (fingerprint f) ps
  unfolding answers
  asks_other e = rw (← e) refl
