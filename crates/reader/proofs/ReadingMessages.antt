-- Reading range by range comes to the reading of the whole message.
use Rattle.std.proofs.Common.{Ok, Err}
use Prim.Native.Nat.{ℕ, zero, suc, ◌+◌, ◌-◌, ◌<◌, ◌≤◌}
use mathlib.Core.Path.{◌≡◌, refl, sym, ap, ◌∙◌}
use mathlib.Core.List.{List, [], ◌∷◌}
use native.Mathlib.Omega.{arith}
use lib.ListN.{length, drop, get_or, length-drop, drop_of_length-le}
use borrow.Author.Tests.{eq-eqb, ne_eqb}
use Rattle.message.specs.Reader.{Outcome, read, refused, after, give}
use Rattle.message.specs.Bound.{Bound, start}
use Rattle.message.specs.Message.{Range, upper, read_range, read_ranges, read_message}
use Rattle.message.specs.WellFormed.{Bytes}
use Rattle.message.specs.Code.{number_of, bound_of, range_of}
use Rattle.message.specs.declared.Refusal.{Refusal}
use Rattle.message.proofs.Order.{Small, small_bytes, small-drop}
use Rattle.message.proofs.Messages.{range_shorter, enough}
use Rattle.reader.specs.Answers.{counted}
use Rattle.reader.specs.Private.{lower_at}
use Rattle.reader.specs.Stepping.{ReadAt}
use Rattle.reader.specs.declared.range.RangeCursor.{RangeCursor}
use Rattle.reader.specs.declared.range.RangeRead.{RangeRead}

-- how many ranges were read, n of them before
abbrev pub more : ℕ → Outcome (List Range) → Outcome ℕ
more n (read rs rest) = read (n + length rs) rest
more n (refused k) = refused k

more-none : (o : Outcome (List Range)) → counted o ≡ more 0 o
more-none (read rs rest) = let e : length rs ≡ 0 + length rs = omega arith in ap (λ n. read n rest) e
more-none (refused k) = refl

more-one : (n : ℕ) (r : Range) (o : Outcome (List Range)) → more n (after o (λ rs. give (r ∷ rs))) ≡ more (n + 1) o
more-one n r (read rs rest) = let e : n + length (r ∷ rs) ≡ n + 1 + length rs = omega arith in ap (λ n. read n rest) e
more-one n r (refused k) = refl

-- ---- one range more; f is enough for the bytes l

refused_at_lem : (f n k : ℕ) (lower : Bound) (l : List ℕ) → refused k ≡ read_range lower l → 1 ≤ length l → length l ≤ f → more n (read_ranges f lower l) ≡ refused k
unfolding read_ranges
refused_at_lem f n k lower [] e h u = absurd (omega arith)
refused_at_lem zero n k lower (b ∷ l) e h u = absurd (omega arith)
refused_at_lem (suc f) n k lower (b ∷ l) e h u = rw (← e) refl

read_at : (f n : ℕ) (lower : Bound) (l : List ℕ) (r : Range) (rest : List ℕ) → Bytes l → read r rest ≡ read_range lower l → 1 ≤ length l → length l ≤ f
    → more n (read_ranges f lower l) ≡ more (n + 1) (read_ranges f (upper r) rest)
unfolding read_ranges
read_at f n lower [] r rest by e h u = absurd (omega arith)
read_at zero n lower (b ∷ l) r rest by e h u = absurd (omega arith)
read_at (suc f) n lower (b ∷ l) r rest by e h u =
    let less = range_shorter lower (b ∷ l) r rest by (sym e) in
    let last : more n (read_ranges (suc f) lower (b ∷ l)) ≡ more (n + 1) (read_ranges f (upper r) rest) = rw (← e) (more-one n r (read_ranges f (upper r) rest)) in
    last ∙ ap (more (n + 1)) (enough f (suc f) (upper r) rest less.1 (omega arith) (omega arith))

-- ---- the whole

pub check_other : (m : List ℕ) → (0 < length m → get_or m 0 0 ≡ 0x61 → ⊥) → counted (read_message m) ≡ refused 6
unfolding read_message
check_other [] h = refl
check_other (b ∷ m) h = rw (ne_eqb b 0x61 (h (omega arith))) refl

pub check_ranges : (m : List ℕ) → Small m → 0 < length m → get_or m 0 0 ≡ 0x61 → counted (read_message m) ≡ more 0 (read_ranges (length m) start (drop 1 m))
unfolding read_message
check_ranges [] s h k = absurd (omega arith)
check_ranges (b ∷ m) s h k =
    rw (eq-eqb b 0x61 k)
    (more-none (read_ranges (length m) start m)
    ∙ ap (more 0) (enough (length m) (suc (length m)) start m (small_bytes m (λ i. s (suc i))) (omega arith) (omega arith)))

pub check_end_lem : (f n : ℕ) (lower : Bound) (m : List ℕ) (i : ℕ) → length m ≤ i → more n (read_ranges f lower (drop i m)) ≡ read n []
unfolding read_ranges
check_end_lem zero n lower m i h = let e : n + 0 ≡ n = omega arith in rw (drop_of_length-le m h) (ap (λ n. read n []) e)
check_end_lem (suc f) n lower m i h = let e : n + 0 ≡ n = omega arith in rw (drop_of_length-le m h) (ap (λ n. read n []) e)

-- n ranges were read, and the next read is r
module _ (m : List ℕ) (c : RangeCursor) (n : ℕ) (inside : c.at < length m) where
  left : (1 ≤ length (drop c.at m)) × (length (drop c.at m) ≤ length m)
  left = rw (length-drop c.at m) (omega arith)

  pub check_refused : (k : Refusal) → ReadAt m c (Err k) → more n (read_ranges (length m) (lower_at c) (drop c.at m)) ≡ refused (number_of k)
  check_refused k answer = refused_at_lem (length m) n (number_of k) (lower_at c) (drop c.at m) answer.0 left.0 left.1

  pub check_on : (r : RangeRead) → Small m → ReadAt m c (Ok r)
      → (length m - r.next.at < length m - c.at)
      × (more n (read_ranges (length m) (lower_at c) (drop c.at m)) ≡ more (n + 1) (read_ranges (length m) (lower_at r.next) (drop r.next.at m)))
  check_on r s answer =
      let bytes = small_bytes (drop c.at m) (small-drop c.at m s) in
      let same : lower_at r.next ≡ bound_of r.range.bound r.range.prefix = rw (answer.1.3, answer.1.4) refl in
      let less = range_shorter (lower_at c) (drop c.at m) (range_of r.range m) (drop r.next.at m) bytes (sym answer.0) in (
        omega (arith, length-drop c.at m, length-drop r.next.at m),
        read_at (length m) n (lower_at c) (drop c.at m) (range_of r.range m) (drop r.next.at m) bytes answer.0 left.0 left.1
            ∙ ap (λ b. more (n + 1) (read_ranges (length m) b (drop r.next.at m))) (sym same),
      )
