-- Stepping through a message: where the ranges left can be read, so can the first of them, and the others behind it.
use Rattle.std.proofs.Common.{Result, Ok, Err, IsOk}
use Rattle.message.specs.declared.Refusal.{Refusal}
use Prim.Native.Nat.{ℕ, zero, suc, ◌-◌, ◌≤◌, ◌<◌}
use mathlib.Core.Path.{◌≡◌, refl, sym, ap, ◌∙◌}
use mathlib.Core.List.{List, [], ◌∷◌}
use native.Mathlib.Omega.{arith}
use lib.Dec.{eqb, ltb}
use lib.ListN.{length, take, drop, length-drop, drop_of_length-le}
use borrow.Author.Tests.{ltb-true, ltb-false}
use Rattle.message.specs.Reader.{Outcome, read, refused}
use Rattle.message.specs.Bound.{Bound, start}
use Rattle.message.specs.Message.{Range, upper, read_range, read_ranges, read_message}
use Rattle.message.specs.WellFormed.{All, Bytes, Rising}
use Rattle.message.specs.Code.{bound_of, range_of}
use Rattle.message.proofs.Exact.{differ, by_test, got, given, passed, bytes_take}
use Rattle.message.proofs.Messages.{LawfulRange, exact_range, range_shorter, enough, ranges-back}
use Rattle.reader.specs.Answers.{FoundPlaced, counted}
use Rattle.reader.specs.Private.{lower_at, reading_at, ranges_of, ranges_at}
use Rattle.reader.specs.Stepping.{starts, ReadAt, InTurn, left_at, found_in, Stepping}
use Rattle.reader.specs.declared.range.RangeCursor.{RangeCursor}
use Rattle.reader.specs.declared.range.RangeRead.{RangeRead}

-- ---- the first of the ranges that are left

record First (f : ℕ) (lower : Bound) (l : List ℕ) (rs : List Range) : Type 0 where
  first : Range
  rest : List ℕ
  others : List Range
  reads : read_range lower l ≡ read first rest
  is : rs ≡ first ∷ others
  more : read_ranges f (upper first) rest ≡ read others []

first_of : (f : ℕ) (lower : Bound) (l : List ℕ) (rs : List Range) → Bytes l → 1 ≤ length l → length l ≤ f → read_ranges f lower l ≡ read rs [] → First f lower l rs
unfolding read_ranges
first_of f lower [] rs by h u e = absurd (omega arith)
first_of zero lower (b ∷ l) rs by h u e = absurd (omega arith)
first_of (suc f) lower (b ∷ l) rs by h u e =
    got (read_range lower (b ∷ l)) _ e λ r rest e₁ d.
    got (read_ranges f (upper r) rest) _ d λ rs' rest' e₂ d₂.
    let less = range_shorter lower (b ∷ l) r rest by e₁ in
    let none : rest' ≡ [] = given (λ (x : List Range) (y : List ℕ). rest' ≡ y) d₂ refl in
    let same : read_ranges (suc f) (upper r) rest ≡ read_ranges f (upper r) rest = enough (suc f) f (upper r) rest less.1 (omega arith) (omega arith) in
    record {
      first = r;
      rest = rest;
      others = rs';
      reads = e₁;
      is = given (λ (x : List Range) (y : List ℕ). x ≡ r ∷ rs') d₂ refl;
      more = same ∙ e₂ ∙ ap (read rs') none;
    }

-- ---- one range more

-- r, read at the cursor c, is the first of the ranges that are left there, and those behind it are left where it leaves the cursor
pub record Next (m : List ℕ) (c : RangeCursor) (r : RangeRead) : Type 0 where
  pub placed : FoundPlaced m r
  pub one : read_range (lower_at c) (drop c.at m) ≡ read (range_of r.range m) (drop r.next.at m)
  pub first : ranges_at m c ≡ range_of r.range m ∷ ranges_at m r.next
  pub reads : reading_at m r.next ≡ read (ranges_at m r.next) []
  pub moved : c.at < r.next.at
  pub upper : lower_at r.next ≡ bound_of r.range.bound r.range.prefix
  pub lawful : LawfulRange (lower_at c) (range_of r.range m)

module _ (m : List ℕ) (c : RangeCursor) (bytes : Bytes m) (inside : c.at < length m) (whole : reading_at m c ≡ read (ranges_at m c) []) where
  rest-bytes : Bytes (drop c.at m)
  rest-bytes = (bytes_take c.at m bytes).1

  left : (1 ≤ length (drop c.at m)) × (length (drop c.at m) ≤ length m)
  left = rw (length-drop c.at m) (omega arith)

  first-left : First (length m) (lower_at c) (drop c.at m) (ranges_at m c)
  unfolding reading_at
  first-left = first_of (length m) (lower_at c) (drop c.at m) (ranges_at m c) rest-bytes left.0 left.1 whole

  some_left : 1 ≤ length (ranges_at m c)
  some_left = omega (arith, ap length first-left.is)

  -- none is refused
  pub reads_on : (r : Result RangeRead Refusal) → ReadAt m c r → IsOk r
  reads_on (Ok r) answer = refl
  reads_on (Err k) answer = differ (cc (answer.0, first-left.reads))

  module _ (r : RangeRead) (answer : ReadAt m c (Ok r)) where
    same : read (range_of r.range m) (drop r.next.at m) ≡ read first-left.first first-left.rest
    same = answer.0 ∙ first-left.reads

    same-upper : lower_at r.next ≡ bound_of r.range.bound r.range.prefix
    same-upper = rw (answer.1.3, answer.1.4) refl

    got_range : first-left.first ≡ range_of r.range m
    got_range = given (λ (a : Range) (b : List ℕ). a ≡ range_of r.range m) same refl

    got_rest : first-left.rest ≡ drop r.next.at m
    got_rest = given (λ (a : Range) (b : List ℕ). b ≡ drop r.next.at m) same refl

    others : reading_at m r.next ≡ read first-left.others []
    unfolding reading_at
    others = rw (same-upper, ← got_rest) (rw got_range at first-left.more)

    the_others : ranges_at m r.next ≡ first-left.others
    the_others = ap ranges_of others

    shorter : c.at < r.next.at
    shorter =
        let less = (range_shorter (lower_at c) (drop c.at m) (range_of r.range m) (drop r.next.at m) rest-bytes (sym answer.0)).0 in
        omega (arith, length-drop c.at m, length-drop r.next.at m, answer.1.2)

    next_of : Next m c r
    next_of = record {
      placed = answer.1;
      one = sym answer.0;
      first = first-left.is ∙ ap (λ (a : Range). a ∷ first-left.others) got_range ∙ ap (λ (a : List Range). range_of r.range m ∷ a) (sym the_others);
      reads = others ∙ ap (λ (a : List Range). read a []) (sym the_others);
      moved = shorter;
      upper = same-upper;
      lawful = ((exact_range (lower_at c)).spells (drop c.at m) (range_of r.range m) (drop r.next.at m) rest-bytes (sym answer.0)).sound;
    }

-- a read there is not refused, and reads that range
pub next-range : (m : List ℕ) (c : RangeCursor) (r : Result RangeRead Refusal) → Bytes m → c.at < length m → reading_at m c ≡ read (ranges_at m c) [] → ReadAt m c r
    → IsOk r × ((o : RangeRead) → r ≡ Ok o → Next m c o)
next-range m c r bytes inside whole answer = (reads_on m c bytes inside whole r answer, λ o is. next_of m c bytes inside whole o (rw is at answer))

-- ---- the first range, and the end

-- a message that `check_message` has passed
pub message-read : (m : List ℕ) (n : ℕ) → read n [] ≡ counted (read_message m) → (rs : List Range) × (read_message m ≡ read rs [])
message-read m n e = by (read_message m) refl e
  where
    by : (o : Outcome (List Range)) → read_message m ≡ o → read n [] ≡ counted o → (rs : List Range) × (read_message m ≡ read rs [])
    by (read rs rest) f g = let z : rest ≡ [] = given (λ (a : ℕ) (b : List ℕ). rest ≡ b) (sym g) refl in (rs, f ∙ ap (read rs) z)
    by (refused k) f g = differ (cc)

pub lower-starts : lower_at starts ≡ start
unfolding starts
lower-starts = refl

pub reading-starts : (m : List ℕ) (rs : List Range) → Bytes m → read_message m ≡ read rs [] → reading_at m starts ≡ read rs []
unfolding reading_at read_message starts
reading-starts [] rs by e = differ (cc)
reading-starts (b ∷ m) rs by e =
    let h = passed (eqb b 0x61) _ _ e in
    enough (suc (length m)) (length m) start m by.1 (omega arith) (omega arith) ∙ h.1

pub reading-ends : (m : List ℕ) (c : RangeCursor) → length m ≤ c.at → ranges_at m c ≡ []
unfolding reading_at read_ranges
reading-ends m c h = rw (drop_of_length-le m h) (nothing (length m) (lower_at c))
  where
    nothing : (f : ℕ) (lower : Bound) → ranges_of (read_ranges f lower []) ≡ []
    nothing zero lower = refl
    nothing (suc f) lower = refl

pub ranges_rise : (m : List ℕ) (c : RangeCursor) → Bytes m → reading_at m c ≡ read (ranges_at m c) [] → Rising (lower_at c) (ranges_at m c)
unfolding reading_at
ranges_rise m c bytes whole = (ranges-back (length m) (lower_at c) (drop c.at m) (ranges_at m c) [] (bytes_take c.at m bytes).1 whole).0

-- ---- reads in turn

-- what they come to from any cursor, `ranges` being those that are left there
record Gives (m : List ℕ) (c : RangeCursor) (ranges : List Range) (reads : List (Result RangeRead Refusal)) : Type 0 where
  found : All (λ (r : Result RangeRead Refusal). IsOk r) reads
  in_order : found_in m reads ≡ take (length reads) ranges
  others : ranges_at m (left_at c reads) ≡ drop (length reads) ranges
  whole : reading_at m (left_at c reads) ≡ read (ranges_at m (left_at c reads)) []
  inside : (left_at c reads).at ≤ length m

-- where a range is left, the cursor stands before the end, and where none is left, at the end
before-end : (m : List ℕ) (c : RangeCursor) → 1 ≤ length (ranges_at m c) → c.at < length m
before-end m c h = by_test (ltb c.at (length m)) (ltb-true c.at (length m)) (λ t. absurd (omega (arith, ap length (reading-ends m c (ltb-false c.at (length m) t)))))

at_end : (m : List ℕ) (c : RangeCursor) → Bytes m → reading_at m c ≡ read (ranges_at m c) [] → c.at ≤ length m → length (ranges_at m c) ≡ 0 → c.at ≡ length m
at_end m c bytes whole inside none =
    by_test (ltb c.at (length m)) (λ t. absurd (omega (arith, some_left m c bytes (ltb-true c.at (length m) t) whole)))
    (λ t. omega (arith, ltb-false c.at (length m) t))

gives : (m : List ℕ) (c : RangeCursor) (reads : List (Result RangeRead Refusal)) → Bytes m → reading_at m c ≡ read (ranges_at m c) [] → c.at ≤ length m → InTurn m c reads
    → length reads ≤ length (ranges_at m c) → Gives m c (ranges_at m c) reads
gives m c [] bytes whole inside turn few = record { found = tt; in_order = refl; others = refl; whole = whole; inside = inside }
gives m c (Ok r ∷ reads) bytes whole inside turn few =
    let n = (next-range m c (Ok r) bytes (before-end m c (omega arith)) whole turn.0).1 r refl in
    let rest = gives m r.next reads bytes n.reads n.placed.2 turn.1 (omega (arith, ap length n.first)) in
    rw n.first (record {
      found = (refl, rest.found);
      in_order = ap (λ (l : List Range). range_of r.range m ∷ l) rest.in_order;
      others = rest.others;
      whole = rest.whole;
      inside = rest.inside;
    })
gives m c (Err k ∷ reads) bytes whole inside turn few = let h = reads_on m c bytes (before-end m c (omega arith)) whole (Err k) turn.0 in differ (cc)

starts-inside : (m : List ℕ) (rs : List Range) → read_message m ≡ read rs [] → starts.at ≤ length m
unfolding read_message starts
starts-inside [] rs e = differ (cc)
starts-inside (b ∷ m) rs e = omega arith

gives_all : (m : List ℕ) (ranges : List Range) (reads : List (Result RangeRead Refusal)) → Bytes m → read_message m ≡ read ranges [] → InTurn m starts reads → length reads ≤ length ranges
    → Gives m starts ranges reads
gives_all m ranges reads bytes e turn few =
    let whole = reading-starts m ranges bytes e in
    let same : ranges_at m starts ≡ ranges = ap ranges_of whole in
    rw same at (gives m starts reads bytes (whole ∙ ap (λ (a : List Range). read a []) (sym same)) (starts-inside m ranges e) turn (rw same few))

pub stepping : Stepping
stepping m ranges bytes e reads turn few =
    let g = gives_all m ranges reads bytes e turn few in
    let c = left_at starts reads in
    let count : length (ranges_at m c) ≡ length ranges - length reads = ap length g.others ∙ length-drop (length reads) ranges in
    record {
      found = g.found;
      in_order = g.in_order;
      ends = λ all. at_end m c bytes g.whole g.inside (omega arith);
      goes_on = λ more. before-end m c (omega arith);
    }
