-- Which ids are needed after commits, `needed-after-commits`: those that no unrefused one was handed.
use Prim.Native.Nat.{ℕ, zero, suc, ◌*◌, ◌≤◌}
use mathlib.Core.Path.{◌≡◌, refl, ap, ◌∙◌}
use mathlib.Core.Bool.{Bool, true, not}
use mathlib.Core.List.Memᴰ
use mathlib.Core.List.{List, [], ◌∷◌, Memᴰ}
use mathlib.Core.Logic.{◌⊎◌, inl, inr, ⊎_elim}
use native.Mathlib.Omega.{arith}
use lib.ListN.{length, take}
use lib.Seq.{length-take-le}
use borrow.Author.Tests.{not-true}
use Rattle.message.specs.Code.{ids_in}
use Rattle.message.proofs.Exact.{by_test, differ}
use Rattle.theory.proofs.Tests.{clash}
use Rattle.table.specs.Answer.{answer, refused}
use Rattle.table.specs.Lists.{keep}
use Rattle.table.specs.Table.{Item, items, ids_of}
use Rattle.ends.specs.Lists.{some, same}
use Rattle.ends.proofs.Lists.{mem_keep}
use Rattle.ends.proofs.Reports.{some_mem, mem_some}
use Rattle.ends.proofs.Calls.{by_answer}
use Rattle.fold.specs.Fold.{still_needed}
use Rattle.fold.specs.Commits.{Commit, State, call, next, run, Needs, Handed, NeededAfterCommits}
use Rattle.fold.proofs.Laying.{ids-cut, ids-behind}
use Rattle.fold.proofs.Commits.{next-length, next-ids, refused-session, refused-list}

-- ---- one batch

-- an id of the list stays there, or it is one of the batch's
stays_or_leaves : (d : List ℕ) (b : List Item) (needed : List (List ℕ)) → Memᴰ d needed → Memᴰ d (still_needed b needed) ⊎ Memᴰ d (ids_of b)
unfolding still_needed
stays_or_leaves d b needed m =
    by_test (some (same d) (ids_of b))
    (λ e. inr (some_mem d (ids_of b) e))
    (λ e. inl (mem_keep (λ d. not (some (same d) (ids_of b))) d needed m (ap not e)))

-- what is kept stood there and passes the test
kept : {X : Type 0} (p : X → Bool) (x : X) (l : List X) → Memᴰ x (keep p l) → Memᴰ x l × (p x ≡ true)
unfolding keep
kept p x [] m = elim m [ ]
kept p x (y ∷ l) m =
    by_test (p y)
    (λ q. ⊎_elim (λ e. (Memᴰ.head e, rw e q)) (λ z. let w = kept p x l z in (Memᴰ.tail w.0, w.1)) (Memᴰ.cases_cons (rw q at m)))
    (λ q. let w = kept p x l (rw q at m) in (Memᴰ.tail w.0, w.1))

-- an id that stays stood there and is none of the batch's
stays_alone : (d : List ℕ) (b : List Item) (needed : List (List ℕ)) → Memᴰ d (still_needed b needed) → Memᴰ d needed × (Memᴰ d (ids_of b) → ⊥)
unfolding still_needed
stays_alone d b needed m =
    let w = kept (λ d. not (some (same d) (ids_of b))) d needed m in
    (w.0, λ z. clash (mem_some d (ids_of b) z) (not-true (some (same d) (ids_of b)) w.1))

-- ---- one commit

module _ (s : State) (room : 32 * s.session.needed ≤ length s.needed) (c : Commit) where
  -- d is the id of an item that it was handed, and it was not refused
  abbrev HandedHere : List ℕ → Type 0
  HandedHere d = (m : ℕ) × ((call s c).answer ≡ answer m) × Memᴰ d (ids_of (items c.batch))

  abbrev before : List (List ℕ)
  before = ids_in s.session.needed s.needed

  abbrev behind : List (List ℕ)
  behind = ids_in (next s c).session.needed (next s c).needed

  after-answer : (m : ℕ) → (call s c).answer ≡ answer m → behind ≡ still_needed (items c.batch) before
  after-answer m e = next-ids s c m e ∙ ap (still_needed (items c.batch)) (ids-behind s.session.needed s.needed c.behind_needed room)

  after-refusal : (k : ℕ) → (call s c).answer ≡ refused k → behind ≡ before
  after-refusal k e = rw (refused-list s c k e room, refused-session s c k e) (ids-cut s.session.needed s.needed)

  next-room : 32 * (next s c).session.needed ≤ length (next s c).needed
  next-room =
      by_answer (call s c).answer
      (λ m e. let z = next-length s c m e in omega arith)
      (λ k e. rw (refused-list s c k e room, refused-session s c k e, length-take-le (32 * s.session.needed) s.needed room) (omega arith))

  needs-or-handed-here : (d : List ℕ) → Needs s d → Needs (next s c) d ⊎ HandedHere d
  needs-or-handed-here d z =
      by_answer (call s c).answer
      (λ m e. ⊎_elim (λ y. inl (rw (after-answer m e) y)) (λ y. inr (m, e, y)) (stays_or_leaves d (items c.batch) before z))
      (λ k e. inl (rw (after-refusal k e) z))

  needed-before : (d : List ℕ) → Needs (next s c) d → Needs s d × (HandedHere d → ⊥)
  needed-before d z =
      by_answer (call s c).answer
      (λ m e. let w = stays_alone d (items c.batch) before (rw (after-answer m e) at z) in (w.0, λ y. w.1 y.2))
      (λ k e. (rw (after-refusal k e) at z, λ y. let f = y.1 in differ (cc)))

-- ---- commits one after another

pub needs-or-handed : (s : State) (cs : List Commit) → 32 * s.session.needed ≤ length s.needed → (d : List ℕ) → Needs s d → Needs (run s cs) d ⊎ Handed d s cs
needs-or-handed s [] room d z = inl z
needs-or-handed s (c ∷ cs) room d z =
    ⊎_elim (λ y. ⊎_elim (λ x. inl x) (λ x. inr (inr x)) (needs-or-handed (next s c) cs (next-room s room c) d y)) (λ y. inr (inl y))
    (needs-or-handed-here s room c d z)

needed-first : (s : State) (cs : List Commit) → 32 * s.session.needed ≤ length s.needed → (d : List ℕ) → Needs (run s cs) d
    → Needs s d × (Handed d s cs → ⊥)
needed-first s [] room d z = (z, λ y. y)
needed-first s (c ∷ cs) room d z =
    let rest = needed-first (next s c) cs (next-room s room c) d z in
    let here = needed-before s room c d rest.0 in
    (here.0, λ y. ⊎_elim here.1 rest.1 y)

pub needed-after-commits : NeededAfterCommits
needed-after-commits s cs room d = (
  needed-first s cs room d,
  λ w. ⊎_elim (λ z. z) (λ z. absurd (w.1 z)) (needs-or-handed s cs room d w.0),
)

-- ---- no id

pub none-stands : (n : ℕ) (l : List ℕ) → n ≡ 0 → (d : List ℕ) → Memᴰ d (ids_in n l) → ⊥
unfolding ids_in
none-stands zero l e d m = Memᴰ.not-nil m
none-stands (suc n) l e d m = omega arith

pub none-counted : (n : ℕ) (l : List ℕ) → ((d : List ℕ) → Memᴰ d (ids_in n l) → ⊥) → n ≡ 0
unfolding ids_in
none-counted zero l h = refl
none-counted (suc n) l h = absurd (h (take 32 l) (Memᴰ.head refl))
