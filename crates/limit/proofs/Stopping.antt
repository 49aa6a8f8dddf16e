-- Ranges one after another, up to the first that does not fit: where the longest run ends, and what is sent then.
use Prim.Native.Nat.{ℕ, zero, suc, ◌+◌, ◌-◌, ◌≤◌, ◌<◌}
use mathlib.Core.Path.{◌≡◌, refl, sym, ap, ◌∙◌}
use mathlib.Core.Bool.{true, false, ◌&&◌}
use mathlib.Core.List.{List, [], ◌∷◌, ◌++◌, append_assoc, append-nil}
use mathlib.Core.Logic.{◌⊎◌, inl, inr}
use native.Mathlib.Omega.{arith}
use lib.Dec.{leb}
use lib.ListN.{length, take, length-append}
use lib.Seq.{take-append_seam, drop-append_seam}
use borrow.Author.Tests.{leb-true, leb-false, le-leb, lt-leb}
use Rattle.message.specs.Bound.{Bound, infinity, start}
use Rattle.message.specs.Message.{skip, fingerprint, ids, Range, range, upper, spell_ranges, spell_message}
use Rattle.message.specs.Meaning.{is_skip, prepend, tidy, write_message}
use Rattle.message.proofs.Exact.{by_test, differ}
use Rattle.message.specs.Private.{waiting}
use Rattle.message.proofs.Tidying.{tidy-skip, tidy-more, waiting-more, write_skip}
use Rattle.theory.proofs.Tests.{clash}
use Rattle.table.specs.Table.{Item, within}
use Rattle.cutting.specs.Cutting.{fingerprint_of}
use Rattle.limit.specs.Limit.{bytes, run_end, closed, fits, longest, first_ids, part_of, shortened, sent_message}
use Rattle.limit.proofs.Runs.{spell_behind, end-behind, fits-size}
use Rattle.limit.proofs.Sizes.{run_fits, none_longer, by_limit}

-- ---- where the longest run ends

module _ (n : ℕ) (T : List Item) where
  -- a longer run takes no fewer bytes
  pub size-grows : (a b : List Range) → length (spell_message a) ≤ length (spell_message (a ++ b))
  unfolding spell_message
  size-grows a b = omega (arith, ap length (spell_behind start a b), length-append (spell_ranges start a) (spell_ranges (run_end start a) b))

  pub fits_less : (a b : List Range) → fits n T (a ++ b) ≡ true → fits n T a ≡ true
  fits_less a b e =
      let h = leb-true (length (spell_message (a ++ b)) + 19) n (sym (fits-size n T (a ++ b)) ∙ e) in
      fits-size n T a ∙ le-leb (length (spell_message a) + 19) n (omega (arith, size-grows a b))

  take_behind : (a b : List Range) (k : ℕ) → length a ≤ k → take k (a ++ b) ≡ a ++ take (k - length a) b
  take_behind [] b k h = let z : k - 0 ≡ k = omega arith in rw z refl
  take_behind (r ∷ a) b zero h = absurd (omega arith)
  take_behind (r ∷ a) b (suc k) h = let z : suc k - suc (length a) ≡ k - length a = omega arith in rw (z, take_behind a b k (omega arith)) refl

  module _ (room : 20 ≤ n) (a : List Range) (r : Range) (b : List Range) (yes : fits n T a ≡ true) (no : fits n T (a ++ (r ∷ [])) ≡ false) where
    abbrev rs : List Range
    rs = a ++ (r ∷ b)

    front : take (length a) rs ≡ a
    front = take-append_seam a (r ∷ b)

    not_longer : (k : ℕ) → fits n T (take k rs) ≡ true → k ≤ length a
    not_longer k e =
        by_test (leb k (length a))
        (λ t. leb-true k (length a) t)
        (λ t.
        let l : suc (length a) ≤ k = leb-false k (length a) t in
        let m : length (a ++ (r ∷ [])) ≡ suc (length a) = omega (arith, length-append a (r ∷ [])) in
        let all : take k rs ≡ (a ++ (r ∷ [])) ++ take (k - length (a ++ (r ∷ []))) b =
        ap (take k) (sym (append_assoc a (r ∷ []) b)) ∙ take_behind (a ++ (r ∷ [])) b k (omega arith) in
        clash (fits_less (a ++ (r ∷ [])) (take (k - length (a ++ (r ∷ []))) b) (rw all at e)) no)

    -- the first range that does not fit ends the longest run
    pub longest_stops : longest n T rs ≡ length a
    longest_stops =
        let up = not_longer (longest n T rs) (run_fits n T room rs) in
        let down = none_longer n T room rs (length a) (omega (arith, length-append a (r ∷ b))) (rw front yes) in
        omega arith

    pub shortened_stops : shortened n T rs ≡ closed T (a ++ part_of n T a (r ∷ b))
    unfolding shortened
    shortened_stops = rw (longest_stops, front, drop-append_seam a (r ∷ b)) refl

-- ---- ranges as they are handed over, before skips are merged

-- `tidy-more` with ranges behind: what is tidied ends with the final skip of those before
nothing : (C : Type 0) (r : Range) (l : List Range) → (l ≡ [] → C) → prepend r l ≡ [] → C
unfolding prepend
nothing C r [] k g = k refl
nothing C r (y ∷ l) k g = by_test (is_skip r && is_skip y) (λ t. differ (let z = (rw t at g) in cc)) (λ t. differ (let z = (rw t at g) in cc))

idle : (C : Type 0) (r : Range) (rs : List Range) → tidy (r ∷ rs) ≡ [] → ((z : Range) → is_skip z ≡ true → waiting (r ∷ rs) ≡ z ∷ [] → C) → C
unfolding tidy waiting prepend
idle C r [] e k = by_test (is_skip r) (λ t. k r t (rw t)) (λ t. differ (let z = (rw t at e) in cc))
idle C r (s ∷ rs) e k = nothing C r (tidy (s ∷ rs)) (λ f. idle C s rs f k) e

prepend-other : (r x : Range) (l : List Range) → is_skip x ≡ false → prepend r (x ∷ l) ≡ r ∷ x ∷ l
unfolding prepend
prepend-other r x l e = rw e (by_test (is_skip r) (λ t. rw t) (λ t. rw t))

prepend_all : (r s : Range) (rs w : List Range) → prepend r ((s ∷ rs) ++ w) ≡ prepend r (s ∷ rs) ++ w
unfolding prepend
prepend_all r s rs w = by_test (is_skip r && is_skip s) (λ t. rw t) (λ t. rw t)

prepend-wait : (r z : Range) (w : List Range) → is_skip z ≡ true → prepend r (z ∷ w) ≡ prepend r [] ++ (z ∷ w)
unfolding prepend
prepend-wait r z w e = rw e (by_test (is_skip r) (λ t. rw t) (λ t. rw t))

behind : (r s : Range) (rs l more : List Range) → tidy (s ∷ rs) ≡ l → prepend r (l ++ (waiting (s ∷ rs) ++ more)) ≡ prepend r l ++ (waiting (r ∷ s ∷ rs) ++ more)
unfolding waiting
behind r s rs [] more f = idle _ s rs f (λ z t w. rw w (prepend-wait r z more t))
behind r s rs (y ∷ l) more f = prepend_all r y l (waiting (s ∷ rs) ++ more)

tidy-other : (x : Range) (more : List Range) → is_skip x ≡ false → tidy (x ∷ more) ≡ x ∷ tidy more
unfolding tidy
tidy-other x more e = by (tidy more)
  where
    by : (l : List Range) → prepend x l ≡ x ∷ l
    by [] = unfold prepend in rw e
    by (s ∷ l) = unfold prepend in rw e

tidy_nothing : tidy [] ≡ []
unfolding tidy
tidy_nothing = refl

pub tidy-behind : (rs : List Range) (x : Range) (more : List Range) → is_skip x ≡ false → tidy (rs ++ (x ∷ more)) ≡ tidy rs ++ (waiting rs ++ (x ∷ tidy more))
unfolding tidy waiting
tidy-behind [] x more e = tidy-other x more e
tidy-behind (r ∷ []) x more e =
    ap (prepend r) (tidy-other x more e) ∙ prepend-other r x (tidy more) e ∙ (unfold prepend in by_test (is_skip r) (λ t. rw t) (λ t. rw t))
tidy-behind (r ∷ s ∷ rs) x more e = ap (prepend r) (tidy-behind (s ∷ rs) x more e) ∙ behind r s rs (tidy (s ∷ rs)) (x ∷ tidy more) refl

-- ---- what is sent, by the ranges up to the first that does not fit

waits : (rs : List Range) → (waiting rs ≡ []) ⊎ ((z : Range) × (is_skip z ≡ true) × (waiting rs ≡ z ∷ []))
unfolding waiting
waits [] = inl refl
waits (r ∷ []) = by_test (is_skip r) (λ t. inr (r, t, rw t)) (λ t. inl (rw t))
waits (r ∷ s ∷ rs) = waits (s ∷ rs)

-- the last fingerprint range behind a run that ends at x
abbrev pub last_from : List Item → Bound → Range
last_from T x = range infinity (fingerprint (fingerprint_of (within x infinity T)))

-- the ranges handed over so far, as they are written if another follows
abbrev pub run_of : List Range → List Range
run_of done = tidy done ++ waiting done

-- its end is the upper bound handed over last
pub run_end_lem : (done : List Range) (x : Range) → run_end start (run_of (done ++ (x ∷ []))) ≡ upper x
run_end_lem done x =
    by_test (is_skip x)
    (λ e. rw (tidy-skip done x e, waiting-more done x, e) (end-behind start (tidy done) x))
    (λ e.
    rw (tidy-more done x e, waiting-more done x, e, append-nil (tidy done ++ (waiting done ++ (x ∷ []))), ← append_assoc (tidy done) (waiting done) (x ∷ []))
    (end-behind start (tidy done ++ waiting done) x))

part-first : (n : ℕ) (T : List Item) (run : List Range) (r : Range) (rs ss : List Range) → part_of n T run (r ∷ rs) ≡ part_of n T run (r ∷ ss)
unfolding part_of
part-first n T run (range y skip) rs ss = refl
part-first n T run (range y (fingerprint f)) rs ss = refl
part-first n T run (range y (ids l)) rs ss = refl

part-skip : (n : ℕ) (T : List Item) (run : List Range) (r : Range) (rs : List Range) → is_skip r ≡ true → part_of n T run (r ∷ rs) ≡ []
unfolding part_of is_skip
part-skip n T run (range y skip) rs e = refl
part-skip n T run (range y (fingerprint f)) rs e = differ (cc)
part-skip n T run (range y (ids l)) rs e = differ (cc)

pub no-skip : (x : Bound) (f : List ℕ) → is_skip (range x (fingerprint f)) ≡ false
unfolding is_skip
no-skip x f = refl

pub no-skip-ids : (own : List Item) (k : ℕ) → is_skip (first_ids own k) ≡ false
unfolding is_skip first_ids
no-skip-ids own k = refl

-- what is closed is written as it stands
pub closed_none : (T : List Item) (d : List Range) → closed T (run_of d) ≡ tidy (d ++ (last_from T (run_end start (run_of d)) ∷ []))
unfolding closed
closed_none T d =
    append_assoc (tidy d) (waiting d) (last_from T (run_end start (run_of d)) ∷ [])
    ∙ sym (tidy-more d (last_from T (run_end start (run_of d))) (no-skip infinity (fingerprint_of (within (run_end start (run_of d)) infinity T))))

closed-one : (T : List Item) (d : List Range) (p : Range) → is_skip p ≡ false → closed T (run_of d ++ (p ∷ [])) ≡ tidy (d ++ (p ∷ last_from T (upper p) ∷ []))
unfolding closed
closed-one T d p e =
    let last = last_from T (upper p) in
    let one : tidy (last ∷ []) ≡ last ∷ [] =
    tidy-other last [] (no-skip infinity (fingerprint_of (within (upper p) infinity T))) ∙ ap (λ (l : List Range). last ∷ l) tidy_nothing in
    rw (end-behind start (run_of d) p)
    (append_assoc (run_of d) (p ∷ []) (last ∷ []) ∙ append_assoc (tidy d) (waiting d) (p ∷ last ∷ [])
    ∙ sym (tidy-behind d p (last ∷ []) e ∙ ap (λ (l : List Range). tidy d ++ (waiting d ++ (p ∷ l))) one))

module _ (n : ℕ) (T : List Item) (room : 20 ≤ n) (done : List Range) (x : Range) (rest : List Range)
    (small : length (write_message done) + 19 ≤ n) (over : n < length (write_message (done ++ (x ∷ []))) + 19) (more : n < length (write_message (done ++ (x ∷ rest)))) where
  other : is_skip x ≡ false
  other = by_test (is_skip x) (λ t. absurd (omega (arith, ap length (write_skip done x t)))) (λ t. t)

  not-fit : fits n T (run_of done ++ (x ∷ [])) ≡ false
  unfolding write_message
  not-fit =
      let same : run_of done ++ (x ∷ []) ≡ tidy (done ++ (x ∷ [])) = append_assoc (tidy done) (waiting done) (x ∷ []) ∙ sym (tidy-more done x other) in
      fits-size n T (run_of done ++ (x ∷ [])) ∙ rw same (lt-leb (length (write_message (done ++ (x ∷ []))) + 19) n over)

  tidied : tidy (done ++ (x ∷ rest)) ≡ run_of done ++ (x ∷ tidy rest)
  tidied = tidy-behind done x rest other ∙ sym (append_assoc (tidy done) (waiting done) (x ∷ tidy rest))

  sent_is : sent_message (bytes n) T (done ++ (x ∷ rest)) ≡ spell_message (shortened n T (tidy (done ++ (x ∷ rest))))
  unfolding sent_message
  sent_is =
      by_limit (λ l. spell_message l ≡ spell_message (shortened n T (tidy (done ++ (x ∷ rest))))) n T (done ++ (x ∷ rest))
      (λ h. absurd (omega arith))
      (λ h. refl)

  -- the run with its final skip fits
  module _ (yes : fits n T (run_of done) ≡ true) where
    keeps : shortened n T (tidy (done ++ (x ∷ rest))) ≡ closed T (run_of done ++ part_of n T (run_of done) (x ∷ []))
    keeps =
        rw tidied
        (shortened_stops n T room (run_of done) x (tidy rest) yes not-fit
        ∙ ap (λ (p : List Range). closed T (run_of done ++ p)) (part-first n T (run_of done) x (tidy rest) []))

    -- nothing of the next range is kept
    pub stop_before : part_of n T (run_of done) (x ∷ []) ≡ []
        → sent_message (bytes n) T (done ++ (x ∷ rest)) ≡ write_message (done ++ (last_from T (run_end start (run_of done)) ∷ []))
    unfolding write_message
    stop_before e = sent_is ∙ ap spell_message (keeps ∙ rw (e, append-nil (run_of done)) (closed_none T done))

    -- or some of its ids
    pub stop_inside : (own : List Item) (k : ℕ) → part_of n T (run_of done) (x ∷ []) ≡ first_ids own k ∷ []
        → sent_message (bytes n) T (done ++ (x ∷ rest)) ≡ write_message (done ++ (first_ids own k ∷ last_from T (upper (first_ids own k)) ∷ []))
    unfolding write_message
    stop_inside own k e = sent_is ∙ ap spell_message (keeps ∙ rw e (closed-one T done (first_ids own k) (no-skip-ids own k)))

  -- The final skip does not fit: the run ends before it. d are the ranges up to the last one that is none.
  pub stop_skip : fits n T (run_of done) ≡ false → (d : List Range) → tidy d ≡ tidy done → waiting d ≡ []
      → sent_message (bytes n) T (done ++ (x ∷ rest)) ≡ write_message (d ++ (last_from T (run_end start (run_of d)) ∷ []))
  unfolding write_message
  stop_skip over_skip d e w = sent_is ∙ ap spell_message (by (waits done) ∙ closed_none T d)
    where
      own-run : run_of d ≡ tidy done
      own-run = rw (w, append-nil (tidy d)) e

      before-fits : fits n T (tidy done) ≡ true
      before-fits = fits-size n T (tidy done) ∙ le-leb (length (write_message done) + 19) n small

      by : (waiting done ≡ []) ⊎ ((z : Range) × (is_skip z ≡ true) × (waiting done ≡ z ∷ [])) → shortened n T (tidy (done ++ (x ∷ rest))) ≡ closed T (run_of d)
      by (inl none) = let z : run_of done ≡ tidy done = rw none (append-nil (tidy done)) in clash before-fits (rw z at over_skip)
      by (inr s) =
          let z = s.0 in
          let split : tidy (done ++ (x ∷ rest)) ≡ tidy done ++ (z ∷ x ∷ tidy rest) = tidy-behind done x rest other ∙ rw s.2 refl in
          rw (split, own-run)
          (shortened_stops n T room (tidy done) z (x ∷ tidy rest) before-fits (rw s.2 at over_skip)
          ∙ rw (part-skip n T (tidy done) z (x ∷ tidy rest) s.1, append-nil (tidy done)) refl)
