-- The inquiry and the commit agree, `inquiry_agrees`; what an unrefused commit leaves passes 1, 2, 4 and 15 of the next one, `commit_passes`.
use Prim.Native.Nat.{ℕ, ◌+◌, ◌*◌, ◌%◌}
use mathlib.Core.Path.{◌≡◌, sym, ap, ◌∙◌}
use mathlib.Core.Bool.{Bool, true, false, not, ◌||◌}
use mathlib.Core.List.{List}
use native.Mathlib.Omega.{arith}
use lib.ListN.{length, length-append}
use Rattle.message.specs.WellFormed.{All, Bytes}
use Rattle.message.proofs.Exact.{differ, bytes_take}
use Rattle.table.specs.Answer.{Answer, answer, refused, refuse_if}
use Rattle.table.specs.Lists.{rising}
use Rattle.table.specs.Table.{Table, items, ids_of, wrong_size, not_rising}
use Rattle.table.specs.Private.{Passed}
use Rattle.table.proofs.Items.{items-whole}
use Rattle.cutting.proofs.Numbers.{Whole}
use Rattle.ends.specs.Lists.{some, same}
use Rattle.ends.specs.Calls.{result}
use Rattle.ends.proofs.Reports.{numbers}
use Rattle.ends.proofs.Inserting.{keep-rises}
use Rattle.fold.specs.Fold.{Lent, front, own_items, needed_ids, cannot_hold, wrong_needed, not_due, judge_fold, still_needed, commit_leaves, inquired, committed}
use Rattle.fold.specs.Commits.{Commit, State, lent_at, call, next}
use Rattle.fold.specs.Agreement.{InquiryAgrees, CommitPasses}
use Rattle.fold.proofs.Laying.{held-behind, front-behind, ids-behind, needed-fits, fits-needed}
use Rattle.fold.proofs.Commits.{Due, judged, judge_due, outcome, unrefused_commit, own-passes, merged-passes, next-table, next-done, next-length, next-ids}

-- ---- the inquiry

-- a check that refuses does so whatever follows it
refuses : {X Y : Type 0} (k j : ℕ) (wrong : Bool) (x : Answer X) (y : Answer Y) → (x ≡ refused j → y ≡ refused j)
    → refuse_if k wrong x ≡ refused j → refuse_if k wrong y ≡ refused j
refuses k j true x y f e = let z : k ≡ j = cc in rw z
refuses k j false x y f e = f e

same-refusal : {X Y : Type 0} (n : ℕ) (l : Lent) (batch : Table) (x : X) (y : Y) (k : ℕ)
    → judge_fold n l batch (answer x) ≡ refused k → judge_fold n l batch (answer y) ≡ refused k
unfolding judge_fold
same-refusal n l batch x y k =
    refuses 1 k (cannot_hold n l.table || wrong_size batch) _ _
    (refuses 2 k (not_rising (front n l.table) || not_rising batch) _ _
    (refuses 4 k (wrong_needed l) _ _
    (refuses 15 k (not l.session.done) _ _
    (refuses 16 k (some (not_due (needed_ids l) (own_items n l)) (items batch)) _ _
    (refuses 17 k (cannot_hold (n + length batch.times) l.table) _ _ (λ e. differ (cc)))))))

was_refused : {L : Type 0} (before : L) (r : Answer (ℕ × L)) (k : ℕ) → (result before r).answer ≡ refused k → r ≡ refused k
was_refused before (answer r) k e = differ (cc)
was_refused before (refused j) k e = let z : j ≡ k = cc in rw z

pub inquiry_agrees : InquiryAgrees
unfolding inquired committed commit_leaves
inquiry_agrees n l batch = record {
  yes = λ entering staying e. let w = judged n l batch _ e in
      let pair : ◌≡◌ {A = ℕ × ℕ} (length (items batch), length (still_needed (items batch) (needed_ids l))) (entering, staying) = let z = w.1 in cc in
      rw (judge_due n l batch (outcome n l batch) w.0) (ap (λ (r : ℕ × ℕ). answer (n + r.0)) pair, ap (λ (r : ℕ × ℕ). r.1) pair);
  success = λ m e. let w = unrefused_commit n l batch m e in
      (length (items batch), w.count, judge_due n l batch _ w.checks ∙ ap (λ (l : Lent). answer (length (items batch), l.session.needed)) (sym w.left));
  no = λ k. (
    λ e. ap (λ (r : Answer (ℕ × Lent)). (result l r).answer) (same-refusal n l batch _ _ k e),
    λ e. same-refusal n l batch _ _ k (was_refused l _ k e),
  );
}

-- ---- the next commit

module _ (s : State) (c : Commit) (m : ℕ) (own : Bytes (lent_at s c).table.ids) (batch : Bytes c.batch.ids) (e : (call s c).answer ≡ answer m) where
  abbrev n : ℕ
  n = length s.table.times

  abbrev l : Lent
  l = lent_at s c

  checks : Due n l c.batch
  checks = (unrefused_commit n l c.batch m e).checks

  table-passes : Passed (next s c).table
  table-passes =
      let ours : All Whole (own_items n l) = items-whole (front n l.table) (bytes_take (32 * n) l.table.ids own).0 (own-passes n l c.batch checks).0 in
      rw (next-table s c m e) (merged-passes n l c.batch checks ours (items-whole c.batch batch checks.batch-size))

  list-passes : (c' : Commit) → length c'.behind_needed % 32 ≡ 0 → wrong_needed (lent_at (next s c) c') ≡ false
  unfolding still_needed
  list-passes c' whole =
      let left = next-length s c m e in
      let size = length-append (next s c).needed c'.behind_needed in
      let ids = ids-behind (next s c).session.needed (next s c).needed c'.behind_needed (omega arith) ∙ next-ids s c m e in
      fits-needed (lent_at (next s c) c') (record {
        whole = omega arith;
        room = omega arith;
        rises = ap (λ (ds : List (List ℕ)). rising (numbers ds)) ids
            ∙ keep-rises (λ d. not (some (same d) (ids_of (items c.batch)))) (needed_ids l) (needed-fits l checks.list).rises;
      })

pub commit_passes : CommitPasses
commit_passes s c m own batch e = record {
  held = λ c'. held-behind (next s c).table (table-passes s c m own batch e).0 c'.behind_table.times c'.behind_table.ids;
  rises = λ c'. rw (front-behind (next s c).table (table-passes s c m own batch e).0 c'.behind_table.times c'.behind_table.ids)
      (table-passes s c m own batch e).1;
  list = list-passes s c m own batch e;
  done = next-done s c m e;
}
