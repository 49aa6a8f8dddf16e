-- After commits that delivered the whole needed list, our table is the union of both, and no id is needed: `union_after_commits`. Where no id is needed, the
-- whole list was delivered: `delivered_told`.
use Prim.Native.Nat.{ℕ, ◌*◌, ◌≤◌}
use mathlib.Core.Path.{◌≡◌, sym, ap, ◌∙◌}
use mathlib.Core.List.Memᴰ
use mathlib.Core.List.{List, [], ◌∷◌, ◌++◌, Memᴰ}
use mathlib.Core.Logic.{◌⊎◌, inl, inr, ⊎_elim}
use native.Mathlib.Omega.{arith}
use lib.ListN.{length}
use Rattle.message.specs.WellFormed.{All}
use Rattle.message.proofs.Exact.{by_test}
use Rattle.theory.proofs.Tests.{clash}
use Rattle.table.specs.Answer.{answer}
use Rattle.table.specs.Table.{Item, Table, items, ids_of}
use Rattle.table.specs.Private.{Passed}
use Rattle.table.proofs.Items.{items-whole}
use Rattle.cutting.proofs.Numbers.{Whole}
use Rattle.ends.specs.Lists.{some, same}
use Rattle.ends.specs.Demand.{Place, OneTime}
use Rattle.ends.proofs.Lists.{all_mem, mem_all, Listed, listed-length}
use Rattle.ends.proofs.Reports.{some_mem, mem_some}
use Rattle.ends.proofs.Calls.{by_answer, unrefused-opening}
use Rattle.ends.proofs.Finished.{theirs_exact}
use Rattle.ends.proofs.Mixed.{ended}
use Rattle.fold.specs.Fold.{Lent, front, own_items, merged}
use Rattle.fold.specs.Commits.{Commit, State, lent_at, call, next, run, Needs, Handed}
use Rattle.fold.specs.Union.{AsHeld, Delivered, Union, after_takes, UnionAfterCommits, DeliveredTold}
use Rattle.fold.proofs.Merging.{merged-ours, merged-batch, merged_cases}
use Rattle.fold.proofs.Laying.{front-behind}
use Rattle.fold.proofs.Commits.{Committed, unrefused_commit, merged-passes, merged_items, next-table, refused-table}
use Rattle.fold.proofs.Needed.{needs-or-handed, needed-after-commits, none-stands, none-counted}

module _ (A B : Table) (once : OneTime (items A ++ items B)) where
  -- one item for each id
  same_item_lem : (i j : Item) → Memᴰ i (items A ++ items B) → Memᴰ j (items A ++ items B) → i.id ≡ j.id → i ≡ j
  same_item_lem i j hi hj e = let t = once i j hi hj e in λ k. record { time = t k; id = e k }

  theirs-once : (i j : Item) → Memᴰ i (items B) → Memᴰ j (items B) → i.id ≡ j.id → i ≡ j
  theirs-once i j hi hj e = same_item_lem i j (Memᴰ.append_right (items A) hi) (Memᴰ.append_right (items A) hj) e

  module _ (whole-A : All Whole (items A)) (whole-B : All Whole (items B)) where
    -- what holds of the table after every commit
    record Folded (T : Table) : Type 0 where
      passes : Passed T
      no_other : (i : Item) → Memᴰ i (items T) → Memᴰ i (items A) ⊎ Memᴰ i (items B)

    -- and all that T had is still there
    record Grown (T T' : Table) : Type 0 where
      folded : Folded T'
      stays : (i : Item) → Memᴰ i (items T) → Memᴰ i (items T')

    module _ (s : State) (f : Folded s.table) (c : Commit) where
      abbrev n : ℕ
      n = length s.table.times

      abbrev l : Lent
      l = lent_at s c

      abbrev b : List Item
      b = items c.batch

      front_is : front n l.table ≡ s.table
      front_is = front-behind s.table f.passes.0 c.behind_table.times c.behind_table.ids

      whole-own : All Whole (own_items n l)
      whole-own =
          rw front_is
          (mem_all Whole (items s.table) (λ i m. ⊎_elim (λ z. all_mem Whole whole-A z) (λ z. all_mem Whole whole-B z) (f.no_other i m)))

      module _ (m : ℕ) (e : (call s c).answer ≡ answer m) (held : (i : Item) → Memᴰ i b → Memᴰ i (items B)) where
        abbrev w : Committed n l c.batch m
        w = unrefused_commit n l c.batch m e

        whole-b : All Whole b
        whole-b = mem_all Whole b (λ i z. all_mem Whole whole-B (held i z))

        items_are : items (next s c).table ≡ merged (items s.table) b
        items_are =
            ap items (next-table s c m e)
            ∙ merged_items n l c.batch w.checks whole-own whole-b
            ∙ ap (λ (T : Table). merged (items T) b) front_is

        after-answer : Grown s.table (next s c).table
        after-answer = record {
          folded = record {
            passes = rw (next-table s c m e) (merged-passes n l c.batch w.checks whole-own whole-b);
            no_other = λ i z. ⊎_elim (λ y. f.no_other i y) (λ y. inr (held i y)) (merged_cases i (items s.table) b (rw items_are at z));
          };
          stays = λ i z. rw items_are (merged-ours i (items s.table) b z);
        }

        -- an item of theirs whose id the batch has is there then
        enters : (i : Item) → Memᴰ i (items B) → Memᴰ i.id (ids_of b) → Memᴰ i (items (next s c).table)
        enters i hi z =
            let y = Memᴰ.of_map (λ (j : Item). j.id) b z in
            let same = theirs-once i y.0 hi (held y.0 y.1) (sym y.2) in
            rw items_are (merged-batch i (items s.table) b (rw same y.1))

      after_commit : ((m : ℕ) → (call s c).answer ≡ answer m → (i : Item) → Memᴰ i b → Memᴰ i (items B)) → Grown s.table (next s c).table
      after_commit held =
          by_answer (call s c).answer (λ m e. after-answer m e (held m e))
          (λ k e. rw (refused-table s c k e f.passes.0) (record { folded = f; stays = λ i z. z }))

    after-commits : (s : State) (cs : List Commit) → Folded s.table → AsHeld B s cs → Grown s.table (run s cs).table
    after-commits s [] f h = record { folded = f; stays = λ i z. z }
    after-commits s (c ∷ cs) f h =
        let here = after_commit s f c h.0 in
        let rest = after-commits (next s c) cs here.folded h.1 in
        record { folded = rest.folded; stays = λ i z. rest.stays i (here.stays i z) }

    -- an item of theirs whose id was handed is in the table
    handed_enters : (s : State) (cs : List Commit) → Folded s.table → AsHeld B s cs → (i : Item) → Memᴰ i (items B) → Handed i.id s cs
        → Memᴰ i (items (run s cs).table)
    handed_enters s [] f h i hi z = absurd z
    handed_enters s (c ∷ cs) f h i hi z =
        let here = after_commit s f c h.0 in
        ⊎_elim
        (λ y. (after-commits (next s c) cs here.folded h.1).stays i (enters s f c y.0 y.1 (h.0 y.0 y.1) i hi y.2))
        (λ y. handed_enters (next s c) cs here.folded h.1 i hi y)
        z

    -- the whole needed list was delivered
    union : (p : Place) (cs : List Commit) → Folded A → AsHeld B (after_takes A p) cs → Delivered (after_takes A p) cs
        → ((i : Item) → Memᴰ i (items B) → Memᴰ i.id (ids_of (items A)) ⊎ Needs (after_takes A p) i.id)
        → Union A B (run (after_takes A p) cs).table
    union p cs f h delivered all =
        let after = after-commits (after_takes A p) cs f h in
        record {
          passes = after.folded.passes;
          ours = after.stays;
          theirs = λ i m. ⊎_elim
              (λ z. let w = Memᴰ.of_map (λ (j : Item). j.id) (items A) z in
              let same = same_item_lem i w.0 (Memᴰ.append_right (items A) m) (Memᴰ.append_left (items B) w.1) (sym w.2) in
              after.stays i (rw same w.1))
              (λ z. handed_enters (after_takes A p) cs f h i m (delivered i.id z))
              (all i m);
          no_other = after.folded.no_other;
        }

-- an id is on a list or it is not
by_member : {C : Type 0} (d : List ℕ) (l : List (List ℕ)) → (Memᴰ d l → C) → ((Memᴰ d l → ⊥) → C) → C
by_member d l f g = by_test (some (same d) l) (λ e. f (some_mem d l e)) (λ e. g (λ m. clash (mem_some d l m) e))

-- as many whole ids as are counted stand on the needed list that the takes left
room : {n : ℕ} {bytes : List ℕ} → Listed n bytes → 32 * n ≤ length bytes
room w = let e = listed-length w in omega arith

pub union_after_commits : UnionAfterCommits
union_after_commits A B a b limit lent n p commits h delivered =
    let ours = (unrefused-opening limit A a lent n h.opens).checks in
    let left = ended A B a b h.ours_bytes h.theirs_bytes limit lent n h.opens h.once h.takes h.done in
    let whole-A : All Whole (items A) = items-whole A h.ours_bytes ours.size in
    let whole-B : All Whole (items B) = items-whole B h.theirs_bytes left.checks.size in
    let all : (i : Item) → Memᴰ i (items B) → Memᴰ i.id (ids_of (items A)) ⊎ Needs (after_takes A p) i.id =
    λ i m. by_member i.id (ids_of (items A)) (λ z. inl z)
    (λ z. inr ((theirs_exact A B p left.reports h.done h.none_collides i.id).1 (Memᴰ.map (λ (i : Item). i.id) m, z))) in (
      union A B h.once whole-A whole-B p commits (record { passes = (ours.size, ours.order); no_other = λ i m. inl m }) h.as_held delivered all,
      none-counted _ _ (λ d z. let w = (needed-after-commits (after_takes A p) commits (room left.list) d).0 z in w.1 (delivered d w.0)),
    )

pub delivered_told : DeliveredTold
delivered_told A B a b limit lent n p commits h none d z =
    let left = ended A B a b h.ours_bytes h.theirs_bytes limit lent n h.opens h.once h.takes h.done in
    ⊎_elim (λ y. absurd (none-stands _ _ none d y)) (λ y. y) (needs-or-handed (after_takes A p) commits (room left.list) d z)
