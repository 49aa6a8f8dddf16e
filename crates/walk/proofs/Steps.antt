-- One range more with its own items, and the walk before the first range.
use Rattle.std.proofs.Common.{Ok}
use Prim.Native.Nat.{ℕ, ◌≤◌, ◌<◌}
use mathlib.Core.Path.{◌≡◌, refl, sym, ap, ◌∙◌}
use mathlib.Core.Bool.{Bool, false}
use mathlib.Core.List.{List, [], ◌∷◌}
use native.Mathlib.Omega.{arith}
use lib.Dec.{ltb}
use lib.ListN.{length}
use borrow.Author.Tests.{le-ltb}
use Rattle.message.specs.Reader.{read}
use Rattle.message.specs.Bound as B
use Rattle.message.specs.Bound.{start}
use Rattle.message.specs.Message.{Range, read_message}
use Rattle.message.specs.WellFormed.{Bytes, LawfulBound}
use Rattle.message.specs.Code.{bound_of, length_of}
use Rattle.message.specs.declared.Bound.{Bound}
use Rattle.message.specs.declared.Payload.{Payload}
use Rattle.writer.specs.Private as writer
use Rattle.writer.specs.Private.{Lawful}
use Rattle.reader.specs.Answers.{EndsAt}
use Rattle.reader.specs.Private.{lower_at, reading_at, ranges_of, ranges_at}
use Rattle.reader.specs.Stepping as reader
use Rattle.reader.specs.Stepping.{ReadAt}
use Rattle.reader.specs.declared.range.RangeRead.{RangeRead}
use Rattle.reader.proofs.Stepping as stepping
use Rattle.reader.proofs.Stepping.{Next, next-range, reading-starts}
use Rattle.table.specs.Lists.{keep}
use Rattle.table.specs.Table.{Item, key_of, Table, items}
use Rattle.table.specs.Private.{Passed, place_of}
use Rattle.table.proofs.Places.{places_rise, within_is}
use Rattle.cutting.proofs.Projection.{key-start}
use Rattle.walk.specs.Walking.{starts, Walking, Stepped}
use Rattle.walk.specs.declared.Walk.{Walk}
use Rattle.walk.specs.declared.Step.{Step}

-- ---- one range more

lawful_form : (b : Bound) (p : List ℕ) → LawfulBound (bound_of b p) → length_of b ≤ 32 → Lawful b
lawful_form Bound.Infinity p h l = tt
lawful_form (Bound.At t n) p h l = (h.0, l)

inside-by : (p : Payload) (end n : ℕ) → EndsAt end p → end ≤ n → writer.Inside p n
inside-by Payload.Skip end n e l = tt
inside-by (Payload.Fingerprint at) end n e l = omega arith
inside-by (Payload.Ids count at) end n e l = omega arith

-- the step that goes by what was read and by the place of the bound
abbrev pub step_to : Walk → RangeRead → ℕ → Step
step_to w r hi = record {
  span = record { lo = w.lo; hi = hi; bound = r.range.bound; prefix = r.range.prefix };
  payload = r.range.payload;
  next = record { cursor = r.next; lo = hi };
}

module _ (T : Table) (m : List ℕ) (w : Walk) (ok : Passed T) (bytes : Bytes m) (inside : w.cursor.at < length m) (walking : Walking T m w)
    (r : RangeRead) (answer : ReadAt m w.cursor (Ok r))
    (hi : ℕ) (place : hi ≡ place_of (bound_of r.range.bound r.range.prefix) (items T)) (fits : hi ≤ length T.times) where
  next : Next m w.cursor r
  next = (next-range m w.cursor (Ok r) bytes inside walking.reads answer).1 r refl

  pub stepped : Stepped T m w (step_to w r hi)
  stepped =
      let x = lower_at w.cursor in
      let y = bound_of r.range.bound r.range.prefix in
      let rise : place_of x (items T) ≤ place_of y (items T) = places_rise x y (items T) (let l = next.lawful.0 in omega arith) in
      record {
        first = next.first;
        upper = next.upper;
        from = walking.place;
        to = place;
        own = within_is T ok x y ∙ rw (walking.place, place) refl;
        span = (rw (walking.place, place) rise, fits, lawful_form r.range.bound r.range.prefix next.lawful.1 next.placed.0.0);
        payload = inside-by r.range.payload r.next.at (length m) next.placed.1 next.placed.2;
        next = record { reads = next.reads; place = place ∙ ap (λ (b : B.Bound). place_of b (items T)) (sym next.upper) };
        moved = next.moved;
        inside = next.placed.2;
      }

-- ---- before the first range

cursor_starts : starts.cursor ≡ reader.starts
unfolding starts
cursor_starts = refl

pub lower-starts : lower_at starts.cursor ≡ start
lower-starts = ap lower_at cursor_starts ∙ stepping.lower-starts

lo_starts : starts.lo ≡ 0
unfolding starts
lo_starts = refl

-- no item lies below it
none_kept : (p : Item → Bool) → ((i : Item) → p i ≡ false) → (is : List Item) → 0 ≡ length (keep p is)
unfolding keep
none_kept p h [] = refl
none_kept p h (i ∷ is) = rw (h i) (none_kept p h is)

none_before : (is : List Item) → 0 ≡ place_of start is
unfolding place_of
none_before is = none_kept (λ (i : Item). ltb (key_of i) (B.key start)) (λ i. rw key-start (le-ltb (key_of i) 0 (omega arith))) is

pub walk_starts : (T : Table) (m : List ℕ) (rs : List Range) → Bytes m → read_message m ≡ read rs [] → Walking T m starts × (ranges_at m starts.cursor ≡ rs)
walk_starts T m rs by e =
    let h : reading_at m starts.cursor ≡ read rs [] = ap (reading_at m) cursor_starts ∙ reading-starts m rs by e in
    let same : ranges_at m starts.cursor ≡ rs = ap ranges_of h in
    (record { reads = h ∙ ap (λ (a : List Range). read a []) (sym same); place = lo_starts ∙ none_before (items T) ∙ ap (λ (b : B.Bound). place_of b (items T)) (sym lower-starts) }, same)
