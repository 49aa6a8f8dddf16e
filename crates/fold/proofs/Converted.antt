-- After commits, too, the conversion gives the session back: `converted-after-commits`.
use Prim.Native.Nat.{ℕ, ◌*◌}
use mathlib.Core.Path.{◌≡◌, sym, ap, subst, ◌∙◌}
use mathlib.Core.Bool.{not}
use mathlib.Core.List.{List, [], ◌∷◌, flatten}
use native.Mathlib.Omega.{arith}
use lib.ListN.{length}
use lib.Seq.{take_all}
use Rattle.message.specs.WellFormed.{Sized}
use Rattle.table.specs.Answer.{answer, refused}
use Rattle.table.specs.Table.{Table, items, ids_of}
use Rattle.cutting.proofs.Projection.{all_keep}
use Rattle.ends.specs.Lists.{some, same}
use Rattle.ends.specs.Opener.{Session}
use Rattle.ends.proofs.Lists.{ids_flatten, listed-length}
use Rattle.ends.proofs.Inserting.{keep-rises}
use Rattle.ends.proofs.Calls.{by_answer, unrefused-opening}
use Rattle.ends.proofs.Standing.{Standing, stands-listed, stands-back}
use Rattle.ends.proofs.Mixed.{stands}
use Rattle.fold.specs.Fold.{Lent, needed_ids, still_needed, commit_leaves}
use Rattle.fold.specs.Commits.{Commit, State, lent_at, call, next, run}
use Rattle.fold.specs.Union.{after_takes}
use Rattle.fold.specs.Converted.{ConvertedAfterCommits}
use Rattle.fold.proofs.Commits.{unrefused_commit, next-list, next-count, refused-session, refused-list}

module _ (A : Table) (marks : List ℕ) (s : State) (w : Standing A s.session marks s.needed) (c : Commit) where
  abbrev After : Type 0
  After = Standing A (next s c).session marks (next s c).needed

  refused-stands : (k : ℕ) → (call s c).answer ≡ refused k → After
  refused-stands k e =
      let size = listed-length (stands-listed w) in
      let list : (next s c).needed ≡ s.needed = refused-list s c k e (omega arith) ∙ take_all (32 * s.session.needed) s.needed (omega arith) in
      subst (λ (l : List ℕ). Standing A (next s c).session marks l) (sym list) (subst (λ (z : Session). Standing A z marks s.needed) (sym (refused-session s c k e)) w)

  -- the ids that stay needed
  abbrev still : List (List ℕ)
  still = still_needed (items c.batch) w.ids

  ids-lent : needed_ids (lent_at s c) ≡ w.ids
  ids-lent = rw (w.count, w.list) (ids_flatten w.ids c.behind_needed w.sorted.sized)

  committed-stands : (m : ℕ) → (call s c).answer ≡ answer m → After
  unfolding still_needed commit_leaves
  committed-stands m e =
      let z = (unrefused_commit (length s.table.times) (lent_at s c) c.batch m e).left in
      record {
        ids = still;
        sorted = record {
          sized = all_keep (Sized 32) (λ d. not (some (same d) (ids_of (items c.batch)))) w.ids w.sorted.sized;
          rises = keep-rises (λ d. not (some (same d) (ids_of (items c.batch)))) w.ids w.sorted.rises;
        };
        list = next-list s c m e ∙ ap (λ (ds : List (List ℕ)). flatten (still_needed (items c.batch) ds)) ids-lent;
        count = next-count s c m e ∙ ap (λ (ds : List (List ℕ)). length (still_needed (items c.batch) ds)) ids-lent;
        size = w.size;
        bits = w.bits;
        marked = ap (λ (l : Lent). l.session.marked) z ∙ w.marked;
        label = ap (λ (l : Lent). l.session.label) z ∙ w.label;
      }

  next-stands : After
  next-stands = by_answer (call s c).answer committed-stands refused-stands

run-stands : (A : Table) (marks : List ℕ) (s : State) → Standing A s.session marks s.needed → (cs : List Commit)
    → Standing A (run s cs).session marks (run s cs).needed
run-stands A marks s w [] = w
run-stands A marks s w (c ∷ cs) = run-stands A marks (next s c) (next-stands A marks s w c) cs

pub converted-after-commits : ConvertedAfterCommits
converted-after-commits A B a b bytes-A bytes-B limit lent n e p ρ commits behind whole =
    let checks = (unrefused-opening limit A a lent n e).checks in
    let s = run (after_takes A p) commits in
    let w = run-stands A p.marks (after_takes A p) (stands A B a b bytes-A bytes-B limit lent n e ρ) commits in
    stands-back A s.session p.marks s.needed w behind whole checks.size checks.order
