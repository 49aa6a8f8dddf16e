-- Where handing ranges over stopped: what is sent, by the writer there.
use Prim.Native.Nat.{ℕ, zero, suc, ◌+◌, ◌-◌, ◌≤◌, ◌<◌}
use mathlib.Core.Path.{◌≡◌, refl, sym, ap, ◌∙◌}
use mathlib.Core.Bool.{Bool, true, false}
use mathlib.Core.List.{List, [], ◌∷◌, ◌++◌, append_assoc, append-nil}
use native.Mathlib.Omega.{arith}
use native.Mathlib.Decide.{dec_le}
use lib.Dec.{leb}
use lib.ListN.{length, length-append}
use borrow.Author.Tests.{le-leb, lt-leb}
use Rattle.message.specs.Varint.{spell_varint, digits_before}
use Rattle.message.specs.Bound.{Bound, infinity, start, spell_prefix, spell_bound}
use Rattle.message.specs.Message.{fingerprint, ids, Range, range, upper, spell_payload, spell_range, spell_message}
use Rattle.message.specs.Meaning.{is_skip, prepend, tidy, write_message}
use Rattle.message.proofs.Meaning.{Tidied, tidy_tidied}
use Rattle.message.specs.Private.{waiting}
use Rattle.message.proofs.Tidying.{tidy-more}
use Rattle.writer.specs.Writing.{lower_of, pending_bytes, more_bytes}
use Rattle.writer.specs.declared.write.Writer.{Writer}
use Rattle.writer.specs.Handover.{Follows}
use Rattle.writer.proofs.Stream.{feed}
use Rattle.table.specs.Table.{Item, within}
use Rattle.cutting.specs.Cutting.{fingerprint_of}
use Rattle.limit.specs.Limit.{bytes, largest, run_end, closed, fits, first_ids, most_ids, cut_after, part_of, sent_message}
use Rattle.limit.proofs.Runs.{fingerprint-sized, fits-size}
use Rattle.limit.proofs.Stopping.{last_from, run_of, no-skip-ids, closed_none, stop_before, stop_inside, stop_skip}
use Rattle.shorten.proofs.Fitting.{fits_first}

-- ---- tidied ranges are tidied already, and none of them waits

pub tidied_waits : (rs : List Range) → Tidied rs → waiting rs ≡ []
unfolding waiting
tidied_waits [] h = refl
tidied_waits (r ∷ []) h = rw h refl
tidied_waits (r ∷ s ∷ rs) h = tidied_waits (s ∷ rs) h.1

pub tidied_tidy : (rs : List Range) → Tidied rs → tidy rs ≡ rs
unfolding tidy prepend
tidied_tidy [] h = refl
tidied_tidy (r ∷ []) h = rw h refl
tidied_tidy (r ∷ s ∷ rs) h = rw (tidied_tidy (s ∷ rs) h.1, h.0) refl

-- ---- sizes

same_test : (a b x y : ℕ) → (a ≤ b → x ≤ y) → (b < a → y < x) → leb a b ≡ leb x y
same_test a b x y f g =
    elim (dec_le a b) [
      | yes l ↦ le-leb a b l ∙ sym (le-leb x y (f l))
      | no n ↦ lt-leb a b (omega arith) ∙ sym (lt-leb x y (g (omega arith)))
    ]

last-size : (x : Bound) (p : List ℕ) → length p ≡ 16 → length (spell_range x (range infinity (fingerprint p))) ≡ 19
unfolding spell_range spell_bound spell_prefix spell_payload spell_varint digits_before
last-size x p e = rw e refl

pub last_more : (w : Writer) (p : List ℕ) → length p ≡ 16 → length (more_bytes w (range infinity (fingerprint p))) ≡ length (pending_bytes w) + 19
unfolding more_bytes is_skip
last_more w p e = length-append (pending_bytes w) (spell_range (lower_of w) (range infinity (fingerprint p))) ∙ ap (λ (k : ℕ). length (pending_bytes w) + k) (last-size (lower_of w) p e)

largest-same : (f g : ℕ → Bool) (n : ℕ) → ((k : ℕ) → f k ≡ g k) → largest f n ≡ largest g n
unfolding largest
largest-same f g zero h = refl
largest-same f g (suc n) h = rw (h (suc n), largest-same f g n h) refl

module _ (size : ℕ) (T : List Item) (done : List Range) (w : Writer) (f : Follows done w) where
  -- a range that is none behind the run
  more-size : (p : Range) → length (write_message (done ++ (p ∷ []))) ≡ w.at + length (more_bytes w p)
  more-size p = ap length (feed done w p f) ∙ length-append (write_message done) (more_bytes w p) ∙ ap (λ (k : ℕ). k + length (more_bytes w p)) (sym f.place)

  -- whether the run with its final skip fits together with the last range: any 16 bytes measure it
  pub keeps_is : (n : ℕ) (p : List ℕ) → length p ≡ 16 → fits n T (run_of done) ≡ leb (w.at + length (more_bytes w (range infinity (fingerprint p)))) n
  unfolding fits write_message
  keeps_is n p e =
      let q = fingerprint_of (within (run_end start (run_of done)) infinity T) in
      let a : length (spell_message (closed T (run_of done))) ≡ w.at + length (more_bytes w (range infinity (fingerprint q))) =
      ap (λ (l : List Range). length (spell_message l)) (closed_none T done) ∙ more-size (range infinity (fingerprint q)) in
      rw (a, last_more w q (fingerprint-sized (within (run_end start (run_of done)) infinity T)).0, last_more w p e) refl

  first_fits : (own : List Item) (k : ℕ) → fits (size + 19) T (run_of done ++ (first_ids own k ∷ [])) ≡ fits_first w size own k
  unfolding write_message
  first_fits own k =
      let same : run_of done ++ (first_ids own k ∷ []) ≡ tidy (done ++ (first_ids own k ∷ [])) =
      append_assoc (tidy done) (waiting done) (first_ids own k ∷ []) ∙ sym (tidy-more done (first_ids own k) (no-skip-ids own k)) in
      let a : length (spell_message (run_of done ++ (first_ids own k ∷ []))) ≡ w.at + length (more_bytes w (first_ids own k)) = ap (λ (l : List Range). length (spell_message l)) same ∙ more-size (first_ids own k) in
      fits-size (size + 19) T (run_of done ++ (first_ids own k ∷ []))
      ∙ rw a (same_test (w.at + length (more_bytes w (first_ids own k)) + 19) (size + 19) (w.at + length (more_bytes w (first_ids own k))) size (omega arith) (omega arith))

  -- what `most_ids` tells is the most ids that fit
  pub most_is : (own : List Item) → most_ids (size + 19) T (run_of done) own ≡ largest (fits_first w size own) (length own - 1)
  unfolding most_ids
  most_is own = largest-same (λ k. fits (size + 19) T (run_of done ++ (first_ids own k ∷ []))) (fits_first w size own) (length own - 1) (first_fits own)

  -- ---- the three ways to close. x is the first range that `size` bytes do not hold.

  module _ (x : Range) (rest : List Range) (room : 1 ≤ size) (lower : run_end start (run_of done) ≡ lower_of w) (small : w.at ≤ size)
      (over : size < length (write_message (done ++ (x ∷ [])))) (exceeds : size + 19 < length (write_message (done ++ (x ∷ rest)))) where
    abbrev whole : List Range
    whole = done ++ (x ∷ rest)

    short : length (write_message done) + 19 ≤ size + 19
    short = omega (arith, f.place)

    -- the final skip does not fit: it is left off
    pub close_skip : (p : List ℕ) → length p ≡ 16 → leb (w.at + length (more_bytes w (range infinity (fingerprint p)))) (size + 19) ≡ false
        → sent_message (bytes (size + 19)) T whole ≡ write_message (tidy done ++ (last_from T (run_end start (tidy done)) ∷ []))
    close_skip p e t =
        let none = tidied_waits (tidy done) (tidy_tidied done) in
        let same = tidied_tidy (tidy done) (tidy_tidied done) in
        let run : run_of (tidy done) ≡ tidy done = rw (same, none) (append-nil (tidy done)) in
        stop_skip (size + 19) T (omega arith) done x rest short (omega arith) exceeds (keeps_is (size + 19) p e ∙ t) (tidy done) same none
        ∙ ap (λ (l : List Range). write_message (tidy done ++ (last_from T (run_end start l) ∷ []))) run

    module _ (p : List ℕ) (e : length p ≡ 16) (t : leb (w.at + length (more_bytes w (range infinity (fingerprint p)))) (size + 19) ≡ true) where
      kept : fits (size + 19) T (run_of done) ≡ true
      kept = keeps_is (size + 19) p e ∙ t

      -- nothing is kept of x
      close_before : part_of (size + 19) T (run_of done) (x ∷ []) ≡ [] → sent_message (bytes (size + 19)) T whole ≡ write_message (done ++ (last_from T (lower_of w) ∷ []))
      close_before h =
          stop_before (size + 19) T (omega arith) done x rest short (omega arith) exceeds kept h
          ∙ ap (λ (y : Bound). write_message (done ++ (last_from T y ∷ []))) lower

      pub close_print : (y : Bound) (g : List ℕ) → x ≡ range y (fingerprint g) → sent_message (bytes (size + 19)) T whole ≡ write_message (done ++ (last_from T (lower_of w) ∷ []))
      close_print y g h = close_before (rw h (none_of y g))
        where
          none_of : (y : Bound) (g : List ℕ) → part_of (size + 19) T (run_of done) (range y (fingerprint g) ∷ []) ≡ []
          none_of y g = unfold part_of in refl

      -- x lists ids: those of `own` that fit are kept
      module _ (y : Bound) (l : List (List ℕ)) (is : x ≡ range y (ids l)) (own : List Item) (here : within (lower_of w) y T ≡ own) where
        part_is : (k : ℕ) → largest (fits_first w size own) (length own - 1) ≡ k → part_of (size + 19) T (run_of done) (x ∷ []) ≡ cut_after k own
        unfolding part_of
        part_is k h = rw (is, lower, here, most_is own, h) refl

        pub close_none : largest (fits_first w size own) (length own - 1) ≡ 0 → sent_message (bytes (size + 19)) T whole ≡ write_message (done ++ (last_from T (lower_of w) ∷ []))
        close_none h = close_before (part_is 0 h)

        pub close_ids : (k : ℕ) → largest (fits_first w size own) (length own - 1) ≡ suc k
            → sent_message (bytes (size + 19)) T whole ≡ write_message (done ++ (first_ids own (suc k) ∷ last_from T (upper (first_ids own (suc k))) ∷ []))
        close_ids k h = stop_inside (size + 19) T (omega arith) done x rest short (omega arith) exceeds kept own (suc k) (part_is (suc k) h)
