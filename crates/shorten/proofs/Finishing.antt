-- How a message that stopped is closed: the three ways in which `close` returns.
use Prim.Native.Nat.{ℕ, zero, suc, ◌+◌, ◌-◌, ◌≤◌, ◌<◌}
use mathlib.Core.Path.{◌≡◌, refl, sym, ap, ◌∙◌}
use mathlib.Core.Bool.{true, false}
use mathlib.Core.List.{List, [], ◌∷◌, ◌++◌, map}
use mathlib.Core.Logic.{◌⊎◌, inl, inr}
use native.Mathlib.Omega.{arith}
use lib.Dec.{leb}
use lib.ListN.{length, take, drop, replicate, length-map}
use borrow.Author.Tests.{leb-true, leb-false, le-leb}
use Rattle.message.specs.Bound.{Bound, infinity, key, time, start}
use Rattle.message.specs.Message.{fingerprint, Range, range, upper, spell_message}
use Rattle.message.specs.Meaning.{tidy, write_message}
use Rattle.message.specs.WellFormed.{Bytes, LawfulBound, Rising}
use Rattle.message.proofs.Exact.{by_test}
use Rattle.message.proofs.Bounds.{below-infinity}
use Rattle.message.proofs.Meaning.{tidy_tidied}
use Rattle.message.specs.Private.{waiting, last_upper}
use Rattle.theory.proofs.Tests.{clash}
use Rattle.writer.specs.Writing.{lower_of, pending_bytes, more_bytes}
use Rattle.writer.specs.declared.write.Writer.{Writer}
use Rattle.writer.specs.Handover.{Follows}
use Rattle.table.specs.Table.{Item, Table, key_of, items, within, ids_of}
use Rattle.table.specs.Private.{Passed, item_at, place_of}
use Rattle.table.proofs.Items.{items-length, items_at}
use Rattle.theory.proofs.Tables.{below_get_d}
use Rattle.table.proofs.Places.{within_is, above-item, place-ends}
use Rattle.cutting.specs.Cutting.{fingerprint_of, shortest, no_item, inner_bound}
use Rattle.cutting.specs.Private.{run, own_in, upper_of}
use Rattle.limit.specs.Limit.{bytes, largest, run_end, first_ids, sent_message}
use Rattle.limit.proofs.Runs.{largest-most, fingerprint-sized}
use Rattle.limit.proofs.Parts.{own-items, nth-key, cut-above, cut-lawful, cut-listed}
use Rattle.limit.proofs.Stopping.{last_from, run_of, run_end_lem}
use Rattle.shorten.specs.declared.Stop.{Stop}
use Rattle.shorten.specs.declared.Closing.{Closing}
use Rattle.shorten.specs.Private.{Stopped, Stands, kept_ids, first_of, closing_ranges, without_skip, Closes}
use Rattle.shorten.proofs.Fitting.{run_length, fits_first, first-place}
use Rattle.shorten.proofs.Stops.{tidied_waits, tidied_tidy, last_more, close_skip, close_print, close_none, close_ids}

-- ---- the last range, by the place of the run's end

module _ (T : Table) (by : Bytes T.ids) (ok : Passed T) where
  pub all_below : place_of infinity (items T) ≡ length T.times
  all_below =
      let up = place-ends infinity T in
      by_test (leb (length T.times) 0)
      (λ t. let l = leb-true (length T.times) 0 t in omega arith)
      (λ t.
      let l = leb-false (length T.times) 0 t in
      let h : length T.times - 1 < length T.times = omega arith in
      let low : key_of (item_at T (length T.times - 1)) < key infinity =
      rw (nth-key (length T.times - 1) (items T), items_at T (length T.times - 1) no_item h) at (below_get_d (key infinity) (map key_of (items T)) (length T.times - 1) (own-items T by ok).below (rw (length-map (items T) key_of, items-length T) h)) in
      let down = above-item T ok infinity (length T.times - 1) h low in
      omega arith)

  pub last-run : (x : Bound) (from : ℕ) → from ≡ place_of x (items T) → last_from (items T) x ≡ range infinity (fingerprint (fingerprint_of (run T from (length T.times))))
  last-run x from e = rw (within_is T ok x infinity, all_below, e) refl

-- ---- the run's end

snoc : (l : List Range) → (l ≡ []) ⊎ ((a : List Range) × (x : Range) × (l ≡ a ++ (x ∷ [])))
snoc [] = inl refl
snoc (r ∷ l) = by (snoc l)
  where
    by : (l ≡ []) ⊎ ((a : List Range) × (x : Range) × (l ≡ a ++ (x ∷ []))) → (r ∷ l ≡ []) ⊎ ((a : List Range) × (x : Range) × (r ∷ l ≡ a ++ (x ∷ [])))
    by (inl e) = inr ([], r, rw e refl)
    by (inr w) = inr (r ∷ w.0, w.1, ap (λ (m : List Range). r ∷ m) w.2)

end_more : (x : Bound) (a : List Range) (r : Range) → run_end x (a ++ (r ∷ [])) ≡ upper r
unfolding run_end
end_more x [] r = refl
end_more x (s ∷ a) r = end_more (upper s) a r

end_none : run_end start (run_of []) ≡ run_end start []
unfolding tidy waiting
end_none = refl

pub end-run : (done : List Range) → run_end start (run_of done) ≡ run_end start done
end-run done = by (snoc done)
  where
    by : (done ≡ []) ⊎ ((a : List Range) × (x : Range) × (done ≡ a ++ (x ∷ []))) → run_end start (run_of done) ≡ run_end start done
    by (inl e) = rw e end_none
    by (inr w) = rw w.2 (run_end_lem w.0 w.1 ∙ sym (end_more start w.0 w.1))

inner_below : (p q : List Item) → LawfulBound (inner_bound p q) → key (inner_bound p q) < key infinity
unfolding inner_bound shortest
inner_below p q h = below-infinity _ _ h

some_byte : (rs : List Range) → 1 ≤ length (write_message rs)
unfolding write_message spell_message
some_byte rs = omega arith

-- ---- the three ways

module _ (size : ℕ) (T : Table) (by : Bytes T.ids) (ok : Passed T) (whole : List Range) (stop : Stop) (s : Stopped size T whole stop)
    (exceeds : size + 19 < length (write_message whole)) (st : Stands T stop) where
  abbrev w : Writer
  w = stop.writer

  abbrev done : List Range
  done = s.done

  abbrev zeros : List ℕ
  zeros = replicate 16 0

  some : 1 ≤ size
  some = omega (arith, some_byte done, s.small)

  lower : run_end start (run_of done) ≡ lower_of w
  lower = end-run done ∙ s.lower

  at_small : w.at ≤ size
  at_small = omega (arith, s.follows.place, s.small)

  over_all : size + 19 < length (write_message (done ++ (s.next ∷ s.rest)))
  over_all = rw s.splits exceeds

  abbrev sent_as : List Range → Type 0
  sent_as rs = sent_message (bytes (size + 19)) (items T) whole ≡ write_message rs

  -- ---- the skip that waits does not fit

  module _ (t : leb (w.at + length (more_bytes w (range infinity (fingerprint zeros)))) (size + 19) ≡ false) where
    none_waits : w.pending ≡ false → pending_bytes w ≡ []
    unfolding pending_bytes
    none_waits e = rw e refl

    waits : w.pending ≡ true
    waits =
        by_test w.pending (λ e. e)
        (λ e. let m : length (more_bytes w (range infinity (fingerprint zeros))) ≡ 19 = last_more w zeros refl ∙ rw (none_waits e) refl in
        clash (le-leb (w.at + length (more_bytes w (range infinity (fingerprint zeros)))) (size + 19) (omega (arith, at_small))) t)

    abbrev skipped : Closing
    skipped = record { writer = without_skip w; span = stop.span; count = 0; from = stop.kept }

    same-tidy : tidy (tidy done) ≡ tidy done
    same-tidy = tidied_tidy (tidy done) (tidy_tidied done)

    same_bytes : write_message (tidy done) ≡ write_message done
    unfolding write_message
    same_bytes = ap spell_message same-tidy

    skip-follows : Follows (tidy done) (without_skip w)
    skip-follows = record {
      place = s.follows.place ∙ ap length (sym same_bytes);
      last = s.follows.last ∙ ap (λ (l : List Range). time (last_upper start l)) (sym same-tidy);
      same = λ e. refl;
      wait = tidied_waits (tidy done) (tidy_tidied done);
    }

    skip-sent : sent_as (tidy done ++ closing_ranges T skipped)
    skip-sent =
        ap (λ (rs : List Range). sent_message (bytes (size + 19)) (items T) rs) (sym s.splits)
        ∙ close_skip size (items T) done w s.follows s.next s.rest some lower at_small s.over over_all zeros refl t
        ∙ ap (λ (r : Range). write_message (tidy done ++ (r ∷ []))) (last-run T by ok (run_end start (tidy done)) stop.kept (s.kept waits))

    pub closes_skip : Closes size T whole done skipped
    closes_skip =
        let l = s.timed waits in
        record {
          begun = tidy done;
          follows = skip-follows;
          same = same_bytes;
          sent = skip-sent;
          lawful = (l, omega arith);
          rising = (below-infinity w.time [] (l, omega arith, tt), tt, fingerprint-sized (run T stop.kept (length T.times)), tt);
          span = st.span;
          fewer = λ h. absurd (omega arith);
          place = st.place;
        }

  -- ---- the run with its final skip fits

  module _ (t : leb (w.at + length (more_bytes w (range infinity (fingerprint zeros)))) (size + 19) ≡ true) where
    own-count : length (own_in T stop.span) ≡ stop.span.hi - stop.span.lo
    own-count = run_length T stop.span st.span.0 st.span.1

    most : stop.listed ≡ true → largest (fits_first w size (own_in T stop.span)) (length (own_in T stop.span) - 1) ≡ kept_ids T size stop
    most h = rw (h, own-count) refl

    -- no id is kept
    module _ (from : ℕ) (e : from ≡ place_of (lower_of w) (items T)) (none : kept_ids T size stop ≡ 0) where
      abbrev ended : Closing
      ended = record { writer = w; span = stop.span; count = 0; from = from }

      end-sent : sent_message (bytes (size + 19)) (items T) (done ++ (s.next ∷ s.rest)) ≡ write_message (done ++ (last_from (items T) (lower_of w) ∷ []))
      end-sent =
          by_test stop.listed
          (λ h.
          let l = s.listed h in
          close_none size (items T) done w s.follows s.next s.rest some lower at_small s.over over_all zeros refl t
          (upper_of stop.span) (ids_of (own_in T stop.span)) l.0 (own_in T stop.span) l.1 (most h ∙ none))
          (λ h.
          let u = s.unlisted h in
          close_print size (items T) done w s.follows s.next s.rest some lower at_small s.over over_all zeros refl t u.0 u.1 u.2)

      pub closes_before : Closes size T whole done ended
      closes_before = record {
        begun = done;
        follows = s.follows;
        same = refl;
        sent =
            ap (λ (rs : List Range). sent_message (bytes (size + 19)) (items T) rs) (sym s.splits) ∙ end-sent
            ∙ ap (λ (r : Range). write_message (done ++ (r ∷ []))) (last-run T by ok (lower_of w) from e);
        lawful = st.lawful;
        rising = (st.below, tt, fingerprint-sized (run T from (length T.times)), tt);
        span = st.span;
        fewer = λ h. absurd (omega arith);
        place = rw e (place-ends (lower_of w) T);
      }

    -- some ids are kept
    module _ (k : ℕ) (some-ids : kept_ids T size stop ≡ suc k) where
      abbrev divided : Closing
      divided = record { writer = w; span = stop.span; count = suc k; from = stop.span.lo + suc k }

      lists : stop.listed ≡ true
      lists = by_test stop.listed (λ h. h) (λ h. absurd (let z : 0 ≡ suc k = (rw h at some-ids) in omega arith))

      is_most : largest (fits_first w size (own_in T stop.span)) (length (own_in T stop.span) - 1) ≡ suc k
      is_most = most lists ∙ some-ids

      few : suc k < stop.span.hi - stop.span.lo
      few = omega (arith, is_most, own-count, largest-most (fits_first w size (own_in T stop.span)) (length (own_in T stop.span) - 1))

      place_of_lem : stop.span.lo + suc k ≡ place_of (upper (first_ids (own_in T stop.span) (suc k))) (items T)
      unfolding first_ids
      place_of_lem = sym (first-place T by ok stop.span (suc k) st.span (omega arith) few)

      ids-sent : sent_as (done ++ closing_ranges T divided)
      ids-sent =
          let l = s.listed lists in
          ap (λ (rs : List Range). sent_message (bytes (size + 19)) (items T) rs) (sym s.splits)
          ∙ close_ids size (items T) done w s.follows s.next s.rest some lower at_small s.over over_all zeros refl t
          (upper_of stop.span) (ids_of (own_in T stop.span)) l.0 (own_in T stop.span) l.1 k is_most
          ∙ ap (λ (r : Range). write_message (done ++ (first_ids (own_in T stop.span) (suc k) ∷ r ∷ []))) (last-run T by ok (upper (first_ids (own_in T stop.span) (suc k))) (stop.span.lo + suc k) place_of_lem)

      ids_rise_lem : Rising (lower_of w) (closing_ranges T divided)
      unfolding first_ids
      ids_rise_lem =
          let x = lower_of w in
          let y = upper_of stop.span in
          let o = own-items T by ok in
          let here = (s.listed lists).1 in
          let more : suc k < length (within x y (items T)) = rw here (omega (arith, own-count, few)) in
          rw (← here) (
            cut-above (items T) o x y k more,
            cut-lawful (items T) o x y k more,
            cut-listed (items T) o x y k more,
            (inner_below (take (suc k) (within x y (items T))) (drop (suc k) (within x y (items T))) (cut-lawful (items T) o x y k more), tt, fingerprint-sized (run T (stop.span.lo + suc k) (length T.times)), tt),
          )

      pub closes_inside : Closes size T whole done divided
      closes_inside = record {
        begun = done;
        follows = s.follows;
        same = refl;
        sent = ids-sent;
        lawful = st.lawful;
        rising = ids_rise_lem;
        span = st.span;
        fewer = λ h. few;
        place = let i = st.span.1 in let f = few in omega arith;
      }

    pub closes_count : (n : ℕ) → n ≡ kept_ids T size stop → 0 < n → Closes size T whole done (record { writer = w; span = stop.span; count = n; from = stop.span.lo + n })
    closes_count zero e h = absurd (omega arith)
    closes_count (suc k) e h = closes_inside k (sym e)

pub kept-few : (T : Table) (size : ℕ) (stop : Stop) → kept_ids T size stop ≤ stop.span.hi - stop.span.lo - 1
kept-few T size stop =
    by_test stop.listed
    (λ h. rw h (largest-most (fits_first stop.writer size (own_in T stop.span)) (stop.span.hi - stop.span.lo - 1)))
    (λ h. rw h (omega arith))

pub closing_none : (T : Table) (c : Closing) → c.count ≡ 0 → closing_ranges T c ≡ range infinity (fingerprint (fingerprint_of (run T c.from (length T.times)))) ∷ []
closing_none T c e = rw e refl

pub closing_first : (T : Table) (c : Closing) → 0 < c.count
    → closing_ranges T c ≡ (first_ids (own_in T c.span) c.count ∷ []) ++ (range infinity (fingerprint (fingerprint_of (run T c.from (length T.times)))) ∷ [])
closing_first T c h = ap (λ (l : List Range). l ++ (range infinity (fingerprint (fingerprint_of (run T c.from (length T.times)))) ∷ [])) (by c.count h)
  where
    by : (n : ℕ) → 0 < n → first_of n T c.span ≡ first_ids (own_in T c.span) n ∷ []
    by zero h = absurd (omega arith)
    by (suc n) h = refl
