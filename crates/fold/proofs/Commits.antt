-- What an unrefused commit went through, and what a refused one leaves; the merged table passes 1 and 2.
use Prim.Native.Nat.{ℕ, ◌+◌, ◌*◌, ◌-◌, ◌^◌, ◌<◌, ◌≤◌}
use mathlib.Core.Path.{◌≡◌, refl, sym, ap, ◌∙◌}
use mathlib.Core.Bool.{true, false, not, ◌||◌}
use mathlib.Core.List.{List, [], ◌∷◌, flatten, append-nil}
use native.Mathlib.Omega.{arith}
use lib.Dec.{eqb}
use lib.ListN.{length, take}
use lib.Seq.{length-take-le, take-append-le}
use borrow.Author.Tests.{not-false, eqb-true, eq-eqb}
use Rattle.message.specs.WellFormed.{All}
use Rattle.message.specs.Code.{ids_in}
use Rattle.theory.proofs.Tests.{clash}
use Rattle.table.specs.Answer.{Answer, answer, refused}
use Rattle.table.specs.Table.{Item, key_of, Table, items, ids_of, wrong_size, not_rising}
use Rattle.table.specs.Private.{Passed}
use Rattle.table.proofs.Tests.{or_false, and_true}
use Rattle.table.proofs.Items.{items-length, items-timed}
use Rattle.table.proofs.Checks.{size_holds}
use Rattle.table.proofs.Keys.{keys_ascend}
use Rattle.cutting.proofs.Numbers.{Whole, key-id, key-time}
use Rattle.cutting.proofs.Projection.{all_keep}
use Rattle.ends.specs.Lists.{some, same}
use Rattle.ends.proofs.Lists.{WholeIds, whole_length, whole-ids, overwrite-front}
use Rattle.ends.proofs.Tables.{same_true}
use Rattle.ends.proofs.Reports.{number_alone, same_refl}
use Rattle.ends.proofs.Calls.{passed, unrefused-result, refused-result, both}
use Rattle.fold.specs.Fold.{Lent, front, own_items, needed_ids, cannot_hold, wrong_needed, same_item, not_due, judge_fold, merged, still_needed, commit_leaves, committed}
use Rattle.fold.specs.Commits.{Commit, State, lent_at, call, next}
use Rattle.fold.proofs.Merging.{Lacks, merged-length, merged_all, merged_ascends}
use Rattle.fold.proofs.Laying.{front-laid, items-laid, holds, front-behind, ids_are_whole, needed-fits, spelled-passes}

-- ---- one check after another

-- no check meets the batch
pub record Due (n : ℕ) (l : Lent) (batch : Table) : Type 0 where
  pub own-size : cannot_hold n l.table ≡ false
  pub batch-size : wrong_size batch ≡ false
  pub own-order : not_rising (front n l.table) ≡ false
  pub batch-order : not_rising batch ≡ false
  pub list : wrong_needed l ≡ false
  pub done : l.session.done ≡ true
  pub due : some (not_due (needed_ids l) (own_items n l)) (items batch) ≡ false
  pub room : cannot_hold (n + length batch.times) l.table ≡ false

module _ (n : ℕ) (l : Lent) (batch : Table) where
  pub judged : {X : Type 0} (next : Answer X) {x : X} → judge_fold n l batch next ≡ answer x → Due n l batch × (next ≡ answer x)
  unfolding judge_fold
  judged next e =
      let p₁ = passed 1 (cannot_hold n l.table || wrong_size batch) _ e in
      let p₂ = passed 2 (not_rising (front n l.table) || not_rising batch) _ p₁.1 in
      let p₄ = passed 4 (wrong_needed l) _ p₂.1 in
      let p₁₅ = passed 15 (not l.session.done) _ p₄.1 in
      let p₁₆ = passed 16 (some (not_due (needed_ids l) (own_items n l)) (items batch)) _ p₁₅.1 in
      let p₁₇ = passed 17 (cannot_hold (n + length batch.times) l.table) next p₁₆.1 in
      let s = or_false (cannot_hold n l.table) (wrong_size batch) p₁.0 in
      let o = or_false (not_rising (front n l.table)) (not_rising batch) p₂.0 in (
        record {
          own-size = s.0;
          batch-size = s.1;
          own-order = o.0;
          batch-order = o.1;
          list = p₄.0;
          done = not-false l.session.done p₁₅.0;
          due = p₁₆.0;
          room = p₁₇.0;
        },
        p₁₇.1,
      )

  -- where no check meets the batch, what follows them comes about
  pub judge_due : {X : Type 0} (next : Answer X) → Due n l batch → judge_fold n l batch next ≡ next
  unfolding judge_fold
  judge_due next d = rw (d.own-size, d.batch-size, d.own-order, d.batch-order, d.list, d.done, d.due, d.room) refl

  abbrev pub after : Lent
  after = commit_leaves (merged (own_items n l) (items batch)) (still_needed (items batch) (needed_ids l)) l

  abbrev pub outcome : Answer (ℕ × Lent)
  outcome = answer (n + length (items batch), after)

  -- an unrefused commit met no check, and leaves what is defined
  pub record Committed (m : ℕ) : Type 0 where
    pub checks : Due n l batch
    pub count : m ≡ n + length (items batch)
    pub left : (committed n l batch).lent ≡ after

  pub unrefused_commit : (m : ℕ) → (committed n l batch).answer ≡ answer m → Committed m
  unfolding committed
  unrefused_commit m e =
      let w = judged outcome (unrefused-result l (judge_fold n l batch outcome) m e) in
      let z = both w.1 in
      record { checks = w.0; count = sym z.0; left = z.1 }

  pub refused_commit : (k : ℕ) → (committed n l batch).answer ≡ refused k → (committed n l batch).lent ≡ l
  unfolding committed
  refused_commit k e = refused-result l (judge_fold n l batch outcome) k e

-- ---- the merged table

pub same_key : (i j : Item) → Whole i → Whole j → key_of i ≡ key_of j → same_item i j ≡ true
unfolding same_item
same_key i j hi hj e =
    let t : i.time ≡ j.time = sym (key-time i hi) ∙ rw e (key-time j hj) in
    let d : i.id ≡ j.id = number_alone i.id j.id hi hj (sym (key-id i hi) ∙ rw e (key-id j hj)) in
    rw (eq-eqb i.time j.time t, d, same_refl j.id) refl

pub same-item-key : (i j : Item) → same_item i j ≡ true → key_of i ≡ key_of j
unfolding same_item key_of
same-item-key i j e =
    let r = and_true (eqb i.time j.time) (same i.id j.id) e in
    rw (eqb-true i.time j.time r.0, same_true i.id j.id r.1) refl

lacks_item : (i : Item) (is : List Item) → Whole i → All Whole is → some (same_item i) is ≡ false → Lacks (key_of i) is
unfolding some
lacks_item i [] hi h e = tt
lacks_item i (j ∷ is) hi h e =
    let r = or_false (same_item i j) (some (same_item i) is) e in
    (λ k. clash (same_key i j hi h.0 k) r.0, lacks_item i is hi h.1 r.1)

-- no item of the batch is in the table
pub none-own : (needed : List (List ℕ)) (is b : List Item) → All Whole is → All Whole b → some (not_due needed is) b ≡ false → All (λ (i : Item). Lacks (key_of i) is) b
unfolding some not_due
none-own needed is [] h g e = tt
none-own needed is (i ∷ b) h g e =
    let r = or_false (not_due needed is i) (some (not_due needed is) b) e in
    let s = or_false (not (some (same i.id) needed)) (some (same_item i) is) r.0 in
    (lacks_item i is g.0 h s.1, none-own needed is b h g.1 r.1)

module _ (n : ℕ) (l : Lent) (batch : Table) (d : Due n l batch) where
  front-size : length (front n l.table).times ≡ n
  front-size = length-take-le n l.table.times (holds n l.table d.own-size).0

  pub own-passes : Passed (front n l.table)
  own-passes =
      let r = holds n l.table d.own-size in (
        size_holds (front n l.table) (rw front-size r.2) (rw (front-size, length-take-le (32 * n) l.table.ids r.1) (omega arith)),
        d.own-order,
      )

  pub own-length : length (own_items n l) ≡ n
  own-length = items-length (front n l.table) ∙ front-size

  pub merged-count : length (merged (own_items n l) (items batch)) ≡ n + length (items batch)
  merged-count = merged-length (own_items n l) (items batch) ∙ rw own-length refl

  module _ (ours : All Whole (own_items n l)) (theirs : All Whole (items batch)) where
    pub merged-whole : All Whole (merged (own_items n l) (items batch))
    merged-whole = merged_all Whole (own_items n l) (items batch) ours theirs

    pub merged_items : items (front (n + length (items batch)) (after n l batch).table) ≡ merged (own_items n l) (items batch)
    unfolding commit_leaves
    merged_items = rw (← merged-count) (items-laid (merged (own_items n l) (items batch)) l.table merged-whole)

    pub merged-passes : Passed (front (n + length (items batch)) (after n l batch).table)
    unfolding commit_leaves
    merged-passes =
        rw (← merged-count, front-laid (merged (own_items n l) (items batch)) l.table merged-whole)
        (spelled-passes (merged (own_items n l) (items batch)) merged-whole
        (merged_all (λ (i : Item). i.time < 2 ^ 64 - 1) (own_items n l) (items batch)
        (items-timed (front n l.table) d.own-order) (items-timed batch d.batch-order))
        (let r = holds (n + length batch.times) l.table d.room in omega (arith, merged-count, items-length batch))
        (merged_ascends 0 (own_items n l) (items batch) (keys_ascend (front n l.table) d.own-order) (keys_ascend batch d.batch-order)
        (none-own (needed_ids l) (own_items n l) (items batch) ours theirs d.due)))

-- ---- commits one after another

module _ (s : State) (c : Commit) where
  abbrev n : ℕ
  n = length s.table.times

  abbrev l : Lent
  l = lent_at s c

  abbrev b : List Item
  b = items c.batch

  -- an unrefused one
  module _ (m : ℕ) (e : (call s c).answer ≡ answer m) where
    abbrev w : Committed n l c.batch m
    w = unrefused_commit n l c.batch m e

    pub next-table : (next s c).table ≡ front (n + length b) (after n l c.batch).table
    next-table = rw (e, w.count, w.left) refl

    pub next-done : (next s c).session.done ≡ true
    unfolding commit_leaves
    next-done = ap (λ (l : Lent). l.session.done) w.left ∙ w.checks.done

    -- the ids that stay needed
    abbrev still : List (List ℕ)
    still = still_needed b (needed_ids l)

    still_whole : WholeIds still
    unfolding still_needed
    still_whole =
        let room = (needed-fits l w.checks.list).room in
        all_keep (λ (d : List ℕ). length d ≡ 32) (λ d. not (some (same d) (ids_of b))) (needed_ids l) (ids_are_whole l.session.needed l.needed (omega arith))

    pub next-list : (next s c).needed ≡ flatten still
    unfolding commit_leaves
    next-list = rw w.left (overwrite-front (flatten still) l.needed (32 * length still) (whole_length still still_whole))

    pub next-count : (next s c).session.needed ≡ length still
    unfolding commit_leaves
    next-count = ap (λ (l : Lent). l.session.needed) w.left

    pub next-length : length (next s c).needed ≡ 32 * (next s c).session.needed
    next-length = rw (next-list, next-count) (whole_length still still_whole)

    pub next-ids : ids_in (next s c).session.needed (next s c).needed ≡ still
    next-ids = rw (next-list, next-count, ← append-nil (flatten still)) (whole-ids still [] still_whole)

  -- a refused one
  module _ (k : ℕ) (e : (call s c).answer ≡ refused k) where
    abbrev left : (call s c).lent ≡ l
    left = refused_commit n l c.batch k e

    pub refused-table : wrong_size s.table ≡ false → (next s c).table ≡ s.table
    refused-table h = rw (e, left) (front-behind s.table h c.behind_table.times c.behind_table.ids)

    pub refused-session : (next s c).session ≡ s.session
    refused-session = ap (λ (l : Lent). l.session) left

    pub refused-list : 32 * s.session.needed ≤ length s.needed → (next s c).needed ≡ take (32 * s.session.needed) s.needed
    refused-list h = rw left (take-append-le (32 * s.session.needed) s.needed c.behind_needed h)
