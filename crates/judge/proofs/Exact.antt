-- The test says yes exactly when the conditions hold.
use Prim.Native.Nat.{ℕ, ◌≤◌, ◌<◌}
use mathlib.Core.Path.{◌≡◌, refl, sym, ap, ◌∙◌}
use mathlib.Core.Bool.{Bool, true, not, ◌||◌}
use mathlib.Core.List.{List, [], ◌∷◌, Memᴰ}
use mathlib.Core.Logic.{◌⊎◌, inl, inr, ⊎_elim, ◌↔◌}
use native.Mathlib.Omega.{arith}
use lib.Dec.{leb}
use lib.ListN.{length}
use borrow.Author.Tests.{leb-true, le-leb}
use Rattle.message.specs.Bound.{Bound, infinity, key, start}
use Rattle.message.specs.Message.{Payload, skip, fingerprint, ids, Range}
use Rattle.message.specs.Meaning.{payload_at}
use Rattle.message.specs.WellFormed.{WellFormed}
use Rattle.message.proofs.Exact.{differ}
use Rattle.theory.proofs.Tests.{by_test, clash, and_intro, and_left, and_right, or_cases, or_right}
use Rattle.table.specs.Lists.{every}
use Rattle.table.specs.Table.{Item, within, ids_of}
use Rattle.cutting.specs.Cutting.{fingerprint_of}
use Rattle.ends.specs.Lists.{some, same}
use Rattle.ends.proofs.Tables.{same_true}
use Rattle.cutting.proofs.Projection.{key-start}
use Rattle.ends.proofs.Reports.{same_refl}
use Rattle.judge.specs.Approved.{Stands, Inside, IdsAt, Meets, TwoMeet, Equal, Approved}
use Rattle.judge.specs.Judge.{is_skip, is_ids, whole, meets, meeting, same_ids, of_table, divides, answers, approves}
use Rattle.judge.proofs.Places.{Sits, sits, stands, sits_whole, whole_sits, At, at_place, place_at, sits_above, sits_up, sits_top}
use Rattle.judge.proofs.Meeting.{range-passes, all_pass, meets_intro, meets-one, meets-other, common, Met, met-passes, met-two, two-met, passes_at, at_passes}

-- ---- bytes and ids

-- an id stands in a list just when the search says so
pub found_mem : (d : List ℕ) (l : List (List ℕ)) → some (same d) l ≡ true → Memᴰ d l
unfolding some
found_mem d [] e = clash e refl
found_mem d (x ∷ l) e = ⊎_elim (λ t. Memᴰ.head (same_true d x t)) (λ t. Memᴰ.tail (found_mem d l t)) (or_cases (same d x) (some (same d) l) e)

pub mem_found : (d : List ℕ) (l : List (List ℕ)) → Memᴰ d l → some (same d) l ≡ true
unfolding some
mem_found d [] m = elim m [ ]
mem_found d (x ∷ l) (Memᴰ.head e) = let z : same d x ≡ true = ap (same d) (sym e) ∙ same_refl d in rw z
mem_found d (x ∷ l) (Memᴰ.tail m) = or_right (same d x) (some (same d) l) (mem_found d l m)

-- every element of a list passes a test
module _ {A : Type 0} (test : A → Bool) where
  pub mem_passes : (l : List A) {x : A} → every test l ≡ true → Memᴰ x l → test x ≡ true
  unfolding every
  mem_passes [] e m = elim m [ ]
  mem_passes (y ∷ l) e (Memᴰ.head d) = rw d (and_left (test y) (every test l) e)
  mem_passes (y ∷ l) e (Memᴰ.tail m) = mem_passes l (and_right (test y) (every test l) e) m

  pub passes_mem : (l : List A) → ((x : A) → Memᴰ x l → test x ≡ true) → every test l ≡ true
  unfolding every
  passes_mem [] h = refl
  passes_mem (y ∷ l) h = and_intro (h y (Memᴰ.head refl)) (passes_mem l (λ x m. h x (Memᴰ.tail m)))

pub same-ids : (l own : List (List ℕ)) → same_ids l own ≡ true → (d : List ℕ) → Memᴰ d l ↔ Memᴰ d own
unfolding same_ids
same-ids l own e d =
    let a = and_left (every (λ d. some (same d) own) l) (every (λ d. some (same d) l) own) e in
    let b = and_right (every (λ d. some (same d) own) l) (every (λ d. some (same d) l) own) e in (
      λ m. found_mem d own (mem_passes (λ d. some (same d) own) l a m),
      λ m. found_mem d l (mem_passes (λ d. some (same d) l) own b m),
    )

pub ids-same : (l own : List (List ℕ)) → ((d : List ℕ) → Memᴰ d l ↔ Memᴰ d own) → same_ids l own ≡ true
unfolding same_ids
ids-same l own h =
    and_intro (passes_mem (λ d. some (same d) own) l (λ d m. mem_found d own ((h d).0 m))) (passes_mem (λ d. some (same d) l) own (λ d m. mem_found d l ((h d).1 m)))

-- ---- payloads

is_skip_lem : (p : Payload) → is_skip p ≡ true → p ≡ skip
unfolding is_skip
is_skip_lem skip e = refl
is_skip_lem (fingerprint f) e = clash e refl
is_skip_lem (ids l) e = clash e refl

no-skip : (p : Payload) → not (is_skip p) ≡ true → p ≡ skip → ⊥
unfolding is_skip
no-skip skip e d = clash e refl
no-skip (fingerprint f) e d = differ (cc)
no-skip (ids l) e d = differ (cc)

skip-not : (p : Payload) → (p ≡ skip → ⊥) → not (is_skip p) ≡ true
unfolding is_skip
skip-not skip h = absurd (h refl)
skip-not (fingerprint f) h = refl
skip-not (ids l) h = refl

is_ids_lem : (p : Payload) → is_ids p ≡ true → (l : List (List ℕ)) × (p ≡ ids l)
unfolding is_ids
is_ids_lem skip e = clash e refl
is_ids_lem (fingerprint f) e = clash e refl
is_ids_lem (ids l) e = (l, refl)

skip_is : {p : Payload} → p ≡ skip → is_skip p ≡ true
unfolding is_skip
skip_is e = ap is_skip e

ids_is : {p : Payload} {l : List (List ℕ)} → p ≡ ids l → is_ids p ≡ true
unfolding is_ids
ids_is e = ap is_ids e

print≢skip : {f : List ℕ} → fingerprint f ≡ skip → ⊥
print≢skip e = differ (cc)

ids≢skip : {l : List (List ℕ)} → ids l ≡ skip → ⊥
ids≢skip e = differ (cc)

-- ---- the two directions

module _ (T : List Item) (q r : List Range) (wq : WellFormed q) (wr : WellFormed r) where
  abbrev met : Bound → Bound → List Payload
  met x y = meeting x y start (whole r)

  module _ {x y : Bound} {p : Payload} (s : Sits start (whole q) x y p) where
    low : key start ≤ key x
    low = sits_above start q wq s

    top : key y ≤ key infinity
    top = sits_top start q wq s

    at : (test : Payload → Bool) → every test (met x y) ≡ true → (k : ℕ) → Inside x y k → test (payload_at r k) ≡ true
    at test e k i = passes_at test r x y top e k low i

    all : (test : Payload → Bool) → ((k : ℕ) → Inside x y k → test (payload_at r k) ≡ true) → every test (met x y) ≡ true
    all test f = at_passes test r x y wr top (sits_up start q wq s) f

    -- its payload is the query's at each of its places
    asked : (k : ℕ) → Inside x y k → payload_at q k ≡ p
    asked k i = place_at start q k wq s i.above i.below

    abbrev Other : Type 0
    Other = Met x y start (whole r)

    other_up : (m : Other) → key m.lower < key m.upper
    other_up m = sits_up start r wr m.sits (omega (arith, top, meets-other x y m.lower m.upper m.meets))

    own_up : (m : Other) → key x < key y
    own_up m = sits_up start q wq s (omega (arith, meets-one x y m.lower m.upper m.meets, sits_top start r wr m.sits))

    other-meets : every (λ p. not (is_skip p)) (met x y) ≡ true → (m : Other) → Meets r x y m.upper
    other-meets e m =
        let w = common x y m.lower m.upper (own_up m) (other_up m) m.meets in
        record {
          lower = m.lower;
          payload = m.payload;
          stands = stands start r (whole_sits start r m.sits (no-skip m.payload (met-passes x y (λ p. not (is_skip p)) start (whole r) e m.sits m.meets)));
          place = w.0;
          here = w.2;
          there = w.1;
        }

    two : every (λ p. not (is_skip p)) (met x y) ≡ true → 2 ≤ length (met x y) → TwoMeet r x y
    two e l =
        let w = two-met x y start r wr l in
        record {
          first = w.first.upper;
          second = w.second.upper;
          before = omega (arith, w.before, other_up w.second);
          one = other-meets e w.first;
          other = other-meets e w.second;
        }

    meeting_of : {u : Bound} → (m : Meets r x y u) → meets x y m.lower u ≡ true
    meeting_of {u} m =
        let i = m.here in
        let j = m.there in
        meets_intro x y m.lower u (omega arith) (omega arith)

    two_of : TwoMeet r x y → 2 ≤ length (met x y)
    two_of w =
        met-two x y start (whole r) (sits_whole start r (sits start r w.one.stands)) (sits_whole start r (sits start r w.other.stands)) w.before
        (meeting_of w.one) (meeting_of w.other)

  -- ---- yes: the conditions hold

  module _ (e : approves T q r ≡ true) where
    of_table_lem : (x y : Bound) (p : Payload) → Sits start r x y p → of_table (within x y T) p ≡ true
    unfolding approves
    of_table_lem x y p s = range-passes (λ x y p. of_table (within x y T) p) start r (and_left (every (λ b. b) _) (every (λ b. b) _) e) s

    answered : (x y : Bound) (p : Payload) → Sits start (whole q) x y p → answers (within x y T) p (met x y) ≡ true
    unfolding approves
    answered x y p s = range-passes (λ x y p. answers (within x y T) p (met x y)) start (whole q) (and_right (every (λ b. b) _) (every (λ b. b) _) e) s

    at_query : (k : ℕ) → k < key infinity → At start q k (payload_at q k)
    at_query k h = at_place start q k (rw key-start (omega arith)) h

    asks_skip : (k : ℕ) (p : Payload) → p ≡ skip → At start q k p → payload_at r k ≡ skip
    unfolding answers
    asks_skip k p d w =
        let s = rw d at w.sits in
        is_skip_lem (payload_at r k) (at s is_skip (answered w.x w.y skip s) k (record { above = w.above; below = w.below }))

    asks_ids : (k : ℕ) (p : Payload) (l : List (List ℕ)) → p ≡ ids l → At start q k p → IdsAt r k
    unfolding answers
    asks_ids k p l d w =
        let s = rw d at w.sits in
        is_ids_lem (payload_at r k) (at s is_ids (answered w.x w.y (ids l) s) k (record { above = w.above; below = w.below }))

    asks_equal : (x y : Bound) (f : List ℕ) → Sits start (whole q) x y (fingerprint f) → Equal T x y f → every is_skip (met x y) ≡ true
    unfolding answers
    asks_equal x y f s d = rw (d, same_refl (fingerprint_of (within x y T))) at (answered x y (fingerprint f) s)

    asks_other : (x y : Bound) (f : List ℕ) → Sits start (whole q) x y (fingerprint f) → (Equal T x y f → ⊥) → divides (met x y) ≡ true
    unfolding answers
    asks_other x y f s n =
        by_test (same f (fingerprint_of (within x y T)))
        (λ t. absurd (n (same_true f (fingerprint_of (within x y T)) t)))
        (λ t. rw t at (answered x y (fingerprint f) s))

    no-skips : (x y : Bound) → divides (met x y) ≡ true → every (λ p. not (is_skip p)) (met x y) ≡ true
    unfolding divides
    no-skips x y d = and_left (every (λ p. not (is_skip p)) (met x y)) (every is_ids (met x y) || leb 2 (length (met x y))) d

    ids-or-two : (x y : Bound) → divides (met x y) ≡ true → (every is_ids (met x y) ≡ true) ⊎ (leb 2 (length (met x y)) ≡ true)
    unfolding divides
    ids-or-two x y d =
        or_cases (every is_ids (met x y)) (leb 2 (length (met x y))) (and_right (every (λ p. not (is_skip p)) (met x y)) (every is_ids (met x y) || leb 2 (length (met x y))) d)

    query_sits : {x y : Bound} {f : List ℕ} → Stands q x y (fingerprint f) → Sits start (whole q) x y (fingerprint f)
    query_sits m = sits_whole start q (sits start q m)

    print_true : (x y : Bound) (f : List ℕ) → Sits start r x y (fingerprint f) → Equal T x y f
    unfolding of_table
    print_true x y f s = same_true f (fingerprint_of (within x y T)) (of_table_lem x y (fingerprint f) s)

    list_true : (x y : Bound) (l : List (List ℕ)) → Sits start r x y (ids l) → (d : List ℕ) → Memᴰ d l ↔ Memᴰ d (ids_of (within x y T))
    unfolding of_table
    list_true x y l s = same-ids l (ids_of (within x y T)) (of_table_lem x y (ids l) s)

    pub yes-approved : Approved T q r
    yes-approved = record {
      skips = λ k h d. asks_skip k (payload_at q k) d (at_query k h);
      equal = λ x y f m d k i. is_skip_lem (payload_at r k) (at (query_sits m) is_skip (asks_equal x y f (query_sits m) d) k i);
      nowhere = λ x y f m n k i. no-skip (payload_at r k) (at (query_sits m) (λ p. not (is_skip p)) (no-skips x y (asks_other x y f (query_sits m) n)) k i);
      divided = λ x y f m n.
          let d = asks_other x y f (query_sits m) n in
          ⊎_elim (λ t. inl (λ k i. is_ids_lem (payload_at r k) (at (query_sits m) is_ids t k i)))
          (λ t. inr (two (query_sits m) (no-skips x y d) (leb-true 2 (length (met x y)) t)))
          (ids-or-two x y d);
      prints = λ x y f m. print_true x y f (sits start r m);
      lists = λ x y l m. list_true x y l (sits start r m);
      listed = λ k h w. asks_ids k (payload_at q k) w.0 w.1 (at_query k h);
    }

  -- ---- the conditions hold: yes

  module _ (h : Approved T q r) where
    table_of : (x y : Bound) (p : Payload) → Sits start r x y p → of_table (within x y T) p ≡ true
    unfolding of_table
    table_of x y skip s = refl
    table_of x y (fingerprint f) s = let e = h.prints x y f (stands start r s) in ap (λ (g : List ℕ). same g (fingerprint_of (within x y T))) e ∙ same_refl (fingerprint_of (within x y T))
    table_of x y (ids l) s = ids-same l (ids_of (within x y T)) (h.lists x y l (stands start r s))

    inside-low : {x y : Bound} {p : Payload} → Sits start (whole q) x y p → {k : ℕ} → Inside x y k → k < key infinity
    inside-low s i = omega (arith, top s, i.below)

    other-divides : (x y : Bound) (f : List ℕ) → Sits start (whole q) x y (fingerprint f) → (Equal T x y f → ⊥) → divides (met x y) ≡ true
    unfolding divides
    other-divides x y f s n =
        let m = stands start q (whole_sits start q s print≢skip) in
        and_intro (all s (λ p. not (is_skip p)) (λ k i. skip-not (payload_at r k) (h.nowhere x y f m n k i)))
        (⊎_elim (λ w. rw (all s is_ids (λ k i. ids_is (w k i).1))) (λ w. or_right (every is_ids (met x y)) (leb 2 (length (met x y))) (le-leb 2 (length (met x y)) (two_of s w)))
        (h.divided x y f m n))

    answers_all : (x y : Bound) (p : Payload) → Sits start (whole q) x y p → answers (within x y T) p (met x y) ≡ true
    unfolding answers
    answers_all x y skip s = all s is_skip (λ k i. skip_is (h.skips k (inside-low s i) (asked s k i)))
    answers_all x y (fingerprint f) s =
        by_test (same f (fingerprint_of (within x y T)))
        (λ t. rw t (all s is_skip (λ k i. skip_is (h.equal x y f (stands start q (whole_sits start q s print≢skip)) (same_true f (fingerprint_of (within x y T)) t) k i))))
        (λ t. rw t (other-divides x y f s (λ d. clash (ap (λ (g : List ℕ). same g (fingerprint_of (within x y T))) d ∙ same_refl (fingerprint_of (within x y T))) t)))
    answers_all x y (ids l) s = all s is_ids (λ k i. ids_is (h.listed k (inside-low s i) (l, asked s k i)).1)

    pub approved-yes : approves T q r ≡ true
    unfolding approves
    approved-yes = and_intro (all_pass (λ x y p. of_table (within x y T) p) start r table_of) (all_pass (λ x y p. answers (within x y T) p (met x y)) start (whole q) answers_all)

-- The test says yes to a reply exactly when it is lawful: for any ranges that messages carry.
pub approves_exact : (T : List Item) (q r : List Range) → WellFormed q → WellFormed r → (approves T q r ≡ true) ↔ Approved T q r
approves_exact T q r wq wr = (yes-approved T q r wq wr, approved-yes T q r wq wr)
