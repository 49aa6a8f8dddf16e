-- The loop over the ranges of a message: the text so far and the lines of the ranges that are left are the whole text.
use Prim.Native.Nat.{ℕ, ◌+◌, ◌<◌, ◌≤◌}
use mathlib.Core.Path.{◌≡◌, refl, sym, ap, ◌∙◌}
use mathlib.Core.List.{List, [], ◌∷◌, ◌++◌, append-nil, append_assoc, flatten}
use native.Mathlib.Omega.{arith}
use Rattle.std.proofs.Common.{Fits, w8}
use lib.ListN.{length, get_or, length-append}
use lib.Dec.{ltb}
use lib.Seq.{length-take-le}
use borrow.Author.Tests.{ltb-false, lt-ltb, le-ltb}
use Rattle.message.specs.Reader.{Outcome, read, refused}
use Rattle.message.specs.Message.{Range, read_message}
use Rattle.message.specs.WellFormed.{Bytes}
use Rattle.message.specs.Code.{range_of}
use Rattle.message.proofs.Exact.{differ, by_test}
use Rattle.message.proofs.Order.{small_bytes}
use Rattle.reader.specs.Answers.{counted}
use Rattle.reader.specs.Private.{reading_at, ranges_of, ranges_at}
use Rattle.reader.specs.Stepping.{starts}
use Rattle.reader.specs.declared.range.RangeCursor.{RangeCursor}
use Rattle.reader.specs.declared.range.RangeRead.{RangeRead}
use Rattle.reader.proofs.Stepping.{Next, reading-starts}
use Rattle.text.specs.Text.{space, newline, too_long, line, refusal_line, lines, printed, shown, room, shown_in, put, IsPrefixLen}
use Rattle.text.specs.Private.{Readable}
use Rattle.text.proofs.Putting.{rest, joined, length-put, put-behind}
use Rattle.text.proofs.Fitting.{printed_short, shown-fits}

-- what a slice of bytes holds
pub bytes_of : (m : List ℕ) → ((k : ℕ) → Fits w8 (get_or m k 0)) → Bytes m
bytes_of m h = small_bytes m (λ k. omega (arith, h k))

-- n bytes are written, and the cursor stands at c
pub record Shows (m out₀ out : List ℕ) (c : RangeCursor) (n : ℕ) : Type 0 where
  pub text : List ℕ
  pub size : n ≡ length text
  pub holds : out ≡ put text out₀
  pub whole : reading_at m c ≡ read (ranges_at m c) []
  pub all : text ++ lines (ranges_at m c) ≡ printed (read_message m)

pub shows_start : (m out : List ℕ) → Bytes m → Readable m → Shows m out out starts 0
unfolding put
shows_start m out bytes readable =
    let e = readable.1 in
    let r = reading-starts m readable.0 bytes e in
    record {
      text = [];
      size = refl;
      holds = refl;
      whole = r ∙ ap (λ (a : List Range). read a []) (sym (ap ranges_of r));
      all = ap lines (ap ranges_of r) ∙ ap printed (sym e);
    }

module _ (m out₀ out : List ℕ) (c : RangeCursor) (n : ℕ) (bytes : Bytes m) (few : length m ≤ 65536) (wide : room ≤ length out₀) (s : Shows m out₀ out c n) where
  -- there is room for the lines that are left
  left-fits : n + length (lines (ranges_at m c)) ≤ room
  left-fits = omega (arith, s.size, length-append s.text (lines (ranges_at m c)), ap length s.all, printed_short m bytes few)

  pub same-room : length out ≡ length out₀
  same-room = ap length s.holds ∙ length-put s.text out₀ (omega (arith, left-fits, s.size))

  module _ (r : RangeRead) (next : Next m c r) where
    step_lines : lines (ranges_at m c) ≡ line (range_of r.range m) ++ lines (ranges_at m r.next)
    unfolding lines flatten
    step_lines = ap lines next.first

    pub line-fits : (n + length (line (range_of r.range m)) ≤ room) × (room ≤ length out)
    line-fits = (
      omega (arith, left-fits, ap length step_lines, length-append (line (range_of r.range m)) (lines (ranges_at m r.next))),
      omega (arith, same-room),
    )

    pub shows_step : (last : List ℕ) (k : ℕ) → k ≡ length (line (range_of r.range m)) → last ≡ put (line (range_of r.range m)) (rest n out)
        → Shows m out₀ (joined n out last) r.next (n + k)
    shows_step last k e h =
        let one = line (range_of r.range m) in
        record {
          text = s.text ++ one;
          size = omega (arith, s.size, length-append s.text one);
          holds = put-behind s.text one out₀ out last n s.size (omega (arith, left-fits, s.size)) s.holds h;
          whole = next.reads;
          all = append_assoc s.text one (lines (ranges_at m r.next)) ∙ ap (λ (l : List ℕ). s.text ++ l) (sym step_lines) ∙ s.all;
        }

pub shows_end : (m out₀ out : List ℕ) (c : RangeCursor) (n : ℕ) → Shows m out₀ out c n → ranges_at m c ≡ []
    → (n ≡ length (printed (read_message m))) × (out ≡ put (printed (read_message m)) out₀)
unfolding lines flatten
shows_end m out₀ out c n s none =
    let same : s.text ≡ printed (read_message m) = sym (append-nil s.text) ∙ ap (λ (rs : List Range). s.text ++ lines rs) (sym none) ∙ s.all in
    (s.size ∙ ap length same, s.holds ∙ ap (λ (t : List ℕ). put t out₀) same)

-- ---- which text it is

shown_in_fits : (out m : List ℕ) → Bytes m → length (shown_in out m) ≤ length out
unfolding shown_in
shown_in_fits out m bytes =
    by_test (ltb (length out) room) (λ e. rw e (omega arith)) (λ e. rw e (omega (arith, shown-fits m bytes, ltb-false (length out) room e)))

pub no_room : (out m : List ℕ) → length out < room → shown_in out m ≡ []
unfolding shown_in
no_room out m h = rw (lt-ltb (length out) room h) refl

module _ (out m : List ℕ) (wide : room ≤ length out) where
  pub too_long_lem : 65536 < length m → shown_in out m ≡ 0x74 ∷ 0x6F ∷ 0x6F ∷ space ∷ 0x6C ∷ 0x6F ∷ 0x6E ∷ 0x67 ∷ newline ∷ []
  unfolding shown_in shown too_long
  too_long_lem h = rw (le-ltb (length out) room wide, lt-ltb 65536 (length m) h) refl

  pub not-long : length m ≤ 65536 → shown_in out m ≡ printed (read_message m)
  unfolding shown_in shown
  not-long h = rw (le-ltb (length out) room wide, le-ltb 65536 (length m) h) refl

pub printed-refused : (o : Outcome (List Range)) (k : ℕ) → refused k ≡ counted o → printed o ≡ refusal_line k
printed-refused (read rs rest) k e = differ (cc)
printed-refused (refused j) k e = let same : j ≡ k = cc in ap refusal_line same

-- what `show` answers, the text being t
pub shows_all : (out m last t : List ℕ) (r : ℕ) → Bytes m → shown_in out m ≡ t → r ≡ length t → last ≡ put t out
    → (r ≡ length (shown_in out m)) × ((last ≡ put (shown_in out m) out) × IsPrefixLen r last)
shows_all out m last t r bytes is size holds =
    let fits : length t ≤ length out = rw (← is) (shown_in_fits out m bytes) in
    let inside : r ≤ length last = omega (arith, size, ap length holds ∙ length-put t out fits) in
    (size ∙ ap length (sym is), (holds ∙ ap (λ (l : List ℕ). put l out) (sym is), (inside, sym (length-take-le r last inside))))
