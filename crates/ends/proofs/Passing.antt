-- What an unrefused call leaves passes check 4.
use Prim.Native.Nat.{ℕ, zero, suc, ◌+◌, ◌*◌, ◌%◌, ◌≤◌}
use mathlib.Core.Path.{◌≡◌, refl, sym, ap, ◌∙◌}
use mathlib.Core.Bool.{Bool, true, false, cond, not, ◌||◌}
use mathlib.Core.List.{List, [], ◌∷◌, ◌++◌, map, flatten, zip_with}
use native.Mathlib.Nat.{le-div_iff_mul-le, div-add-mod'}
use native.Mathlib.Omega.{arith}
use lib.Dec.{ltb, eqb}
use lib.ListN.{length, replicate, length-replicate, length-append}
use borrow.Author.Tests.{eq-eqb, eqb-true, le-ltb, ltb-false, not-false}
use Rattle.message.specs.Bound.{big_endian, start}
use Rattle.message.specs.Message.{Range}
use Rattle.message.specs.WellFormed.{WellFormed, Bytes}
use Rattle.message.specs.Code.{ids_in}
use Rattle.message.proofs.Exact.{by_test}
use Rattle.message.proofs.Messages.{message-back}
use Rattle.table.specs.Lists.{rising}
use Rattle.table.specs.Table.{Item, Table, items}
use Rattle.table.proofs.Tests.{or_false}
use Rattle.table.proofs.Ids.{ids-sized}
use Rattle.table.proofs.Items.{items-length}
use Rattle.ends.specs.Lists.{some}
use Rattle.ends.specs.Calls.{each_range}
use Rattle.ends.specs.Opener.{Lent, ones, needed_ids, capacity, wrong_buffers, wrong_contents, opening_leaves, unlisted, unowned, marks_after, needed_after, take_leaves, opened_within, taken_within}
use Rattle.ends.specs.Passing.{handed_on, OpeningPasses, TakePasses}
use Rattle.ends.proofs.Lists.{overwrite-front, flatten_length, ids_flatten}
use Rattle.ends.proofs.Reports.{unowned-sized}
use Rattle.ends.proofs.Inserting.{Sorted, added_sorted}
use Rattle.ends.proofs.Calls.{unrefused-opening, unrefused-take}
use Rattle.ends.proofs.Simulation.{no_ones}

-- ---- what check 4 asks

pub record Fit (T : Table) (l : Lent) : Type 0 where
  pub marks : length l.marks ≡ length T.times
  pub whole : length l.needed % 32 ≡ 0
  pub bits : some (ltb 1) l.marks ≡ false
  pub marked : l.session.marked ≡ ones l.marks
  pub list : l.session.needed * 32 ≤ length l.needed
  pub rises : rising (map (big_endian 32) (needed_ids l)) ≡ true

pub fits : (T : Table) (l : Lent) → (wrong_buffers T l || wrong_contents l) ≡ false → Fit T l
unfolding wrong_buffers wrong_contents
fits T l e =
    let f = or_false (wrong_buffers T l) (wrong_contents l) e in
    let b = or_false (not (eqb (length l.marks) (length T.times))) (not (eqb (length l.needed % 32) 0)) f.0 in
    let x = or_false (some (ltb 1) l.marks || not (eqb l.session.marked (ones l.marks)) || ltb (capacity l) l.session.needed) (not (rising (map (big_endian 32) (needed_ids l)))) f.1 in
    let y = or_false (some (ltb 1) l.marks || not (eqb l.session.marked (ones l.marks))) (ltb (capacity l) l.session.needed) x.0 in
    let z = or_false (some (ltb 1) l.marks) (not (eqb l.session.marked (ones l.marks))) y.0 in
    let h = ltb-false (capacity l) l.session.needed y.1 in
    let d = div-add-mod' (length l.needed) 32 in
    record {
      marks = eqb-true _ _ (not-false _ b.0);
      whole = eqb-true _ _ (not-false _ b.1);
      bits = z.0;
      marked = eqb-true _ _ (not-false _ z.1);
      list = omega arith;
      rises = not-false _ x.1;
    }

pub fit-passes : (T : Table) (l : Lent) → Fit T l → (wrong_buffers T l ≡ false) × (wrong_contents l ≡ false)
unfolding wrong_buffers wrong_contents
fit-passes T l f =
    let room : l.session.needed ≤ capacity l = (le-div_iff_mul-le {k = 32} (omega arith)).1 f.list in (
      rw (eq-eqb _ _ f.marks, f.whole) refl,
      rw (f.bits, eq-eqb _ _ f.marked, f.rises, le-ltb (capacity l) l.session.needed room) refl,
    )

-- ---- marks

no_bits : (n : ℕ) → some (ltb 1) (replicate n 0) ≡ false
unfolding some
no_bits zero = refl
no_bits (suc n) = no_bits n

-- marks set on the items that pass a test
module _ (set : Item → Bool) where
  abbrev set_on : List Item → List ℕ → List ℕ
  set_on = zip_with (λ i m. cond (set i) 1 m)

  set-length : (is : List Item) (ms : List ℕ) → length is ≡ length ms → length (set_on is ms) ≡ length ms
  unfolding zip_with
  set-length [] [] e = refl
  set-length [] (m ∷ ms) e = absurd (omega arith)
  set-length (i ∷ is) [] e = absurd (omega arith)
  set-length (i ∷ is) (m ∷ ms) e = let z = set-length is ms (omega arith) in omega arith

  set-bits : (is : List Item) (ms : List ℕ) → some (ltb 1) ms ≡ false → some (ltb 1) (set_on is ms) ≡ false
  unfolding some zip_with
  set-bits [] ms e = refl
  set-bits (i ∷ is) [] e = refl
  set-bits (i ∷ is) (m ∷ ms) e =
      let h = or_false (ltb 1 m) (some (ltb 1) ms) e in
      let r = set-bits is ms h.1 in
      by_test (set i) (λ s. rw (s, r) refl) (λ s. rw (s, h.0, r) refl)

-- ---- the calls

pub opening-passes : OpeningPasses
unfolding opening_leaves ids_in rising
opening-passes limit T c l n e behind out whole =
    let w = unrefused-opening limit T c l n e in
    fit-passes T (handed_on (opened_within limit T c l).lent behind out) (rw w.left (record {
      marks = length-replicate (length T.times) 0;
      whole = whole;
      bits = no_bits (length T.times);
      marked = sym (no_ones (length T.times));
      list = omega arith;
      rises = refl;
    }))

-- an unrefused take that read the ranges rs, and came to the needed ids `ids`
module _ (T : Table) (l : Lent) (f : Fit T l) (bytes : Bytes l.needed) (rs : List Range) (well : WellFormed rs) where
  abbrev marks : List ℕ
  marks = marks_after (items T) rs l.marks

  abbrev ids : List (List ℕ)
  ids = needed_after (items T) rs (needed_ids l)

  sorted : Sorted ids
  unfolding needed_after
  sorted =
      added_sorted (needed_ids l) (flatten (each_range (unowned (items T)) start rs)) (unowned-sized (items T) start rs well)
      (record { sized = ids-sized l.session.needed l.needed bytes (let h = f.list in omega arith); rises = f.rises })

  module _ (message : List ℕ) (done : Bool) (behind out : List ℕ) (whole : length behind % 32 ≡ 0) where
    abbrev left : Lent
    left = handed_on (take_leaves message done marks ids l) behind out

    list : left.needed ≡ flatten ids ++ behind
    unfolding take_leaves
    list = ap (λ (m : List ℕ). m ++ behind) (overwrite-front (flatten ids) l.needed (32 * length ids) (flatten_length ids sorted.sized))

    size : length left.needed ≡ 32 * length ids + length behind
    size = rw list (length-append (flatten ids) behind ∙ rw (flatten_length ids sorted.sized) refl)

    left-fits : Fit T left
    unfolding take_leaves marks_after
    left-fits = record {
      marks = set-length (λ i. some (λ b. b) (each_range (unlisted i) start rs)) (items T) l.marks (items-length T ∙ sym f.marks) ∙ f.marks;
      whole = omega (arith, size);
      bits = set-bits (λ i. some (λ b. b) (each_range (unlisted i) start rs)) (items T) l.marks f.bits;
      marked = refl;
      list = omega (arith, size);
      rises = rw (list, ids_flatten ids behind sorted.sized) sorted.rises;
    }

pub take-passes : TakePasses
take-passes limit T c reply l n read held e behind out whole =
    let w = unrefused-take limit T c reply l n e in
    let well = (message-back reply w.ranges w.rest read w.says).0 in
    fit-passes T (handed_on (taken_within limit T c reply l).lent behind out)
    (rw w.left (left-fits T l (fits T l w.fits) held w.ranges well _ _ behind out whole))
