-- The ids that are kept, as code has them; which of them fit.
use Prim.Native.Nat.{ℕ, zero, suc, ◌+◌, ◌-◌, ◌*◌, ◌/◌, ◌≤◌, ◌<◌}
use mathlib.Core.Path.{◌≡◌, refl, ap, ◌∙◌}
use mathlib.Core.Bool.{Bool, true, false}
use mathlib.Core.List.{List, [], ◌∷◌, ◌++◌, flatten}
use native.Mathlib.Omega.{arith}
use lib.Dec.{leb}
use lib.ListN.{length, take, drop, length-append, length-map, length-drop}
use lib.Seq.{get_or-take, get_or-drop, length-take-le}
use borrow.Author.Tests.{leb-true, leb-false, le-leb, lt-leb, lt-ltb}
use Rattle.message.specs.Varint.{spell_varint}
use Rattle.message.specs.Bound.{Bound, key, spell_bound}
use Rattle.message.specs.Message.{ids, range, upper, spell_payload, spell_range}
use Rattle.message.specs.Meaning.{is_skip}
use Rattle.message.specs.WellFormed.{All, Bytes, Sized}
use Rattle.message.specs.Code.{bound_of, range_of, ids_in}
use Rattle.message.specs.declared.Bound as B
use Rattle.message.specs.declared.Payload as P
use Rattle.message.specs.declared.Range as R
use Rattle.message.proofs.Exact.{by_test}
use Rattle.writer.specs.Writing.{lower_of, lawful, inside, pending_bytes, more_bytes, verdict}
use Rattle.writer.specs.Private.{Lawful, Inside}
use Rattle.writer.specs.declared.write.Writer.{Writer}
use Rattle.table.specs.Table.{Item, Table, items, within, ids_of}
use Rattle.table.specs.Private.{Passed, item_at, place_of}
use Rattle.table.proofs.Keys.{keys_rise}
use Rattle.table.proofs.Places.{above-item, not-above-item}
use Rattle.table.proofs.Items.{items-length, items_at, ids-run}
use Rattle.cutting.specs.Cutting.{shortest, no_item, nth, inner_bound}
use Rattle.cutting.specs.Private as cutting
use Rattle.cutting.specs.declared.Span.{Span}
use Rattle.cutting.proofs.Numbers.{Whole, shortest-between}
use Rattle.cutting.proofs.Parts.{run_of, run-front}
use Rattle.cutting.proofs.Projection.{within-whole}
use Rattle.limit.specs.Limit.{largest, first_ids}
use Rattle.limit.proofs.Parts.{OwnItems, own-items, inner_shortest, cut-above, ids_whole, all_take, all_at}
use Rattle.writer.specs.Handover.{is_taken}

-- ---- the largest number that passes

module _ (test : ℕ → Bool) where
  -- none above m passes
  pub largest-below : (m n : ℕ) → m ≤ n → ((k : ℕ) → m < k → k ≤ n → test k ≡ false) → largest test n ≡ largest test m
  unfolding largest
  largest-below m zero h f = let z : m ≡ 0 = omega arith in rw z refl
  largest-below m (suc n) h f =
      by_test (leb m n)
      (λ t. let l = leb-true m n t in rw (f (suc n) (omega arith) (omega arith)) (largest-below m n l (λ k a b. f k a (omega arith))))
      (λ t. let l = leb-false m n t in let z : m ≡ suc n = omega arith in rw z refl)

  pub largest-here : (k : ℕ) → 0 < k → test k ≡ true → largest test k ≡ k
  unfolding largest
  largest-here zero h e = absurd (omega arith)
  largest-here (suc k) h e = rw e refl

  pub largest-next : (k : ℕ) → 0 < k → test k ≡ false → largest test k ≡ largest test (k - 1)
  unfolding largest
  largest-next zero h e = absurd (omega arith)
  largest-next (suc k) h e = let z : suc k - 1 ≡ k = omega arith in rw (e, z) refl

pub largest-none : (test : ℕ → Bool) (n : ℕ) → n ≡ 0 → 0 ≡ largest test n
unfolding largest
largest-none test n e = rw e refl

-- ---- the first ids of a span

nth-run : (is : List Item) (lo hi n : ℕ) → n < hi - lo → nth (run_of is lo hi) n ≡ nth is (lo + n)
nth-run is lo hi n h = get_or-take (hi - lo) (drop lo is) n no_item h ∙ get_or-drop lo is n no_item

pub run_length : (T : Table) (s : Span) → s.lo ≤ s.hi → s.hi ≤ length T.times → length (cutting.own_in T s) ≡ s.hi - s.lo
run_length T s h l = length-take-le (s.hi - s.lo) (drop s.lo (items T)) (rw (length-drop s.lo (items T), items-length T) (omega arith))

module _ (T : Table) (s : Span) (k : ℕ) (within-span : cutting.Inside T s) (some : 0 < k) (fewer : k < s.hi - s.lo) where
  first-bound : inner_bound (take k (cutting.own_in T s)) (drop k (cutting.own_in T s)) ≡ shortest (item_at T (s.lo + k - 1)) (item_at T (s.lo + k))
  first-bound =
      let l = within-span.1 in
      let e : k ≡ suc (k - 1) = omega arith in
      let a : nth (cutting.own_in T s) (k - 1) ≡ item_at T (s.lo + k - 1) =
      nth-run (items T) s.lo s.hi (k - 1) (omega arith)
      ∙ items_at T (s.lo + (k - 1)) no_item (omega arith)
      ∙ ap (item_at T) (let z : s.lo + (k - 1) ≡ s.lo + k - 1 = omega arith in z) in
      let b : nth (cutting.own_in T s) k ≡ item_at T (s.lo + k) = nth-run (items T) s.lo s.hi k fewer ∙ items_at T (s.lo + k) no_item (omega arith) in
      let c : inner_bound (take (suc (k - 1)) (cutting.own_in T s)) (drop (suc (k - 1)) (cutting.own_in T s)) ≡ shortest (nth (cutting.own_in T s) (k - 1)) (nth (cutting.own_in T s) (suc (k - 1))) =
      inner_shortest (k - 1) (cutting.own_in T s) (rw (run_length T s within-span.0 l) (omega arith)) in
      (rw (← e) at c) ∙ rw (a, b) refl

  pub first_is : (b : Bound) → b ≡ shortest (item_at T (s.lo + k - 1)) (item_at T (s.lo + k)) → range b (ids (ids_in k (drop (s.lo * 32) T.ids))) ≡ first_ids (cutting.own_in T s) k
  unfolding first_ids
  first_is b e =
      let l = within-span.1 in
      let z : s.lo + k - s.lo ≡ k = omega arith in
      let listed : ids_of (take k (cutting.own_in T s)) ≡ ids_in k (drop (s.lo * 32) T.ids) =
      ap ids_of (run-front (items T) s.lo k s.hi (omega arith)) ∙ ids-run T s.lo (s.lo + k) (omega arith) ∙ ap (λ (j : ℕ). ids_in j (drop (s.lo * 32) T.ids)) z in
      rw (e, first-bound, listed) refl

-- its bound has the place behind them
pub first-place : (T : Table) → Bytes T.ids → (ok : Passed T) (s : Span) (k : ℕ) → cutting.Inside T s → 0 < k → k < s.hi - s.lo
    → place_of (inner_bound (take k (cutting.own_in T s)) (drop k (cutting.own_in T s))) (items T) ≡ s.lo + k
first-place T by ok s k i some fewer =
    let l = i.1 in
    let o = own-items T by ok in
    let at : (j : ℕ) → j < length T.times → Whole (item_at T j) = λ j h. rw (items_at T j no_item h) at (all_at Whole no_item j (items T) o.whole (rw (items-length T) h)) in
    let b = shortest-between (item_at T (s.lo + k - 1)) (item_at T (s.lo + k)) (at (s.lo + k - 1) (omega arith)) (at (s.lo + k) (omega arith)) (keys_rise T ok (s.lo + k - 1) (s.lo + k) (omega arith) (omega arith)) in
    let up = above-item T ok (shortest (item_at T (s.lo + k - 1)) (item_at T (s.lo + k))) (s.lo + k - 1) (omega arith) b.0 in
    let down = not-above-item T ok (shortest (item_at T (s.lo + k - 1)) (item_at T (s.lo + k))) (s.lo + k) (omega arith) b.1 in
    rw (first-bound T s k i some fewer) (omega arith)

-- ---- the verdict is by room alone

lawful_true : (b : B.Bound) → Lawful b → lawful b ≡ true
lawful_true B.Bound.Infinity h = refl
lawful_true (B.Bound.At t n) h = rw (le-leb _ _ h.0, le-leb _ _ h.1) refl

inside_true : (p : P.Payload) (n : ℕ) → Inside p n → inside p n ≡ true
inside_true P.Payload.Skip n h = refl
inside_true (P.Payload.Fingerprint at) n h = le-leb _ _ h
inside_true (P.Payload.Ids count at) n h = le-leb _ _ h

pub taken-room : (size : ℕ) (w : Writer) (r : R.Range) (source : List ℕ) → Lawful w.bound → Lawful r.bound → Inside r.payload (length source)
    → key (lower_of w) < key (bound_of r.bound r.prefix) → is_taken (verdict size w r source) ≡ leb (w.at + length (more_bytes w (range_of r source))) size
unfolding verdict
taken-room size w r source a b c lt =
    rw (lawful_true w.bound a, lawful_true r.bound b, lt-ltb _ _ lt, inside_true r.payload (length source) c)
    (by_test (leb (w.at + length (more_bytes w (range_of r source))) size) (λ e. rw e refl) (λ e. rw e refl))

-- ---- which of them fit

flat_length : (ds : List (List ℕ)) → All (Sized 32) ds → length (flatten ds) ≡ 32 * length ds
unfolding flatten
flat_length [] h = refl
flat_length (d ∷ ds) h = let e = h.0.0 in omega (arith, length-append d (flatten ds), flat_length ds h.1)

-- they take 32 bytes each, and more
first-size : (w : Writer) (own : List Item) (k : ℕ) → All (λ (i : Item). Sized 32 i.id) own → k ≤ length own → 32 * k ≤ length (more_bytes w (first_ids own k))
unfolding more_bytes first_ids is_skip spell_range spell_payload
first-size w own k h l =
    let ds = ids_of (take k own) in
    let n : length ds ≡ k = length-map (take k own) (λ (i : Item). i.id) ∙ length-take-le k own l in
    let flat = flat_length ds (ids_whole (take k own) (all_take (λ (i : Item). Sized 32 i.id) k own h)) in
    let b = inner_bound (take k own) (drop k own) in
    omega (
      arith,
      length-append (pending_bytes w) (spell_bound (lower_of w) b ++ (spell_varint 2 ++ (spell_varint (length ds) ++ flatten ds))),
      length-append (spell_bound (lower_of w) b) (spell_varint 2 ++ (spell_varint (length ds) ++ flatten ds)),
      length-append (spell_varint 2) (spell_varint (length ds) ++ flatten ds),
      length-append (spell_varint (length ds)) (flatten ds),
    )

-- the test of `most_ids`
abbrev pub fits_first : Writer → ℕ → List Item → ℕ → Bool
fits_first w size own k = leb (w.at + length (more_bytes w (first_ids own k))) size

module _ (T : Table) (by : Bytes T.ids) (ok : Passed T) (w : Writer) (size : ℕ) (s : Span) (inside-table : cutting.Inside T s)
    (lawful-writer : Lawful w.bound) (here : within (lower_of w) (cutting.upper_of s) (items T) ≡ cutting.own_in T s) where
  own : OwnItems (items T)
  own = own-items T by ok

  span-count : length (cutting.own_in T s) ≡ s.hi - s.lo
  span-count = run_length T s inside-table.0 inside-table.1

  -- no more than size / 32 can fit
  pub too_many : (k : ℕ) → size / 32 < k → k ≤ s.hi - s.lo - 1 → fits_first w size (cutting.own_in T s) k ≡ false
  too_many k h l =
      let whole : All (λ (i : Item). Sized 32 i.id) (cutting.own_in T s) = rw here at (within-whole (lower_of w) (cutting.upper_of s) (items T) own.whole) in
      lt-leb _ size (omega (arith, first-size w (cutting.own_in T s) k whole (omega (arith, span-count))))

  above-first : (k : ℕ) → 0 < k → k < s.hi - s.lo → key (lower_of w) < key (inner_bound (take k (cutting.own_in T s)) (drop k (cutting.own_in T s)))
  above-first k h l =
      let e : suc (k - 1) ≡ k = omega arith in
      rw (e, here) at (cut-above (items T) own (lower_of w) (cutting.upper_of s) (k - 1) (rw here (omega (arith, span-count))))

  -- what `fits` tells of a range
  pub fits-first : (k : ℕ) → 0 < k → k < s.hi - s.lo → (r : R.Range) → range_of r T.ids ≡ first_ids (cutting.own_in T s) k → Lawful r.bound → Inside r.payload (length T.ids)
      → is_taken (verdict size w r T.ids) ≡ fits_first w size (cutting.own_in T s) k
  unfolding first_ids
  fits-first k h l r e a b =
      let u : bound_of r.bound r.prefix ≡ inner_bound (take k (cutting.own_in T s)) (drop k (cutting.own_in T s)) = ap upper e in
      taken-room size w r T.ids lawful-writer a b (rw u (above-first k h l)) ∙ rw e refl

  -- ---- the loop

  abbrev pub goal : ℕ
  goal = largest (fits_first w size (cutting.own_in T s)) (s.hi - s.lo - 1)

  pub most-start : (k : ℕ) → k ≤ s.hi - s.lo - 1 → k ≤ size / 32 → (k < s.hi - s.lo - 1 → k ≡ size / 32) → goal ≡ largest (fits_first w size (cutting.own_in T s)) k
  most-start k a b c =
      largest-below (fits_first w size (cutting.own_in T s)) k (s.hi - s.lo - 1) a
      (λ j h l. too_many j (let e = c (omega arith) in omega arith) l)
