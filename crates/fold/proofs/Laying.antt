-- Items laid at the front of a table's buffers, and read again; what the checks of the buffers say; whole ids in a buffer.
use Prim.Native.Nat.{ℕ, zero, suc, ◌*◌, ◌/◌, ◌%◌, ◌-◌, ◌^◌, ◌≤◌, ◌<◌}
use mathlib.Core.Path.{◌≡◌, refl, sym, ap, ◌∙◌}
use mathlib.Core.Bool.{true, false, not, ◌||◌}
use mathlib.Core.List.{List, [], ◌∷◌, ◌++◌, map, zip_with, flatten, append-nil}
use native.Mathlib.Nat.{le-div_iff_mul-le, div-add-mod'}
use native.Mathlib.Omega.{arith}
use lib.Dec.{ltb, eqb}
use lib.ListN.{length, take, drop, length-map, length-append, length-take, length-drop}
use lib.Seq.{take_at, take-append-le}
use borrow.Author.Tests.{ltb-false, lt-ltb, le-ltb, eqb-true, not-false}
use Rattle.message.specs.Bound.{big_endian}
use Rattle.message.specs.WellFormed.{All}
use Rattle.message.specs.Code.{ids_in}
use Rattle.table.specs.Lists.{rising, every}
use Rattle.table.specs.Table.{Item, key_of, Table, items, ids_of, wrong_size, not_rising}
use Rattle.table.specs.Private.{Passed}
use Rattle.table.proofs.Tests.{or_false}
use Rattle.table.proofs.Ids.{ids-part}
use Rattle.table.proofs.Items.{right_size}
use Rattle.table.proofs.Checks.{size_holds}
use Rattle.table.proofs.Keys.{Ascending}
use Rattle.cutting.proofs.Numbers.{Whole}
use Rattle.limit.proofs.Parts.{ids_whole}
use Rattle.ends.specs.Lists.{overwrite}
use Rattle.ends.proofs.Lists.{WholeIds, flatten_length, ids_flatten}
use Rattle.ends.proofs.Inserting.{ascends_rise}
use Rattle.fold.specs.Fold.{Lent, front, needed_ids, cannot_hold, wrong_needed, laid}

abbrev pub times_of : List Item → List ℕ
times_of = map (λ (i : Item). i.time)

-- the items as a table that has nothing behind them
abbrev pub spelled : List Item → Table
spelled is = record { times = times_of is; ids = flatten (ids_of is) }

pub bytes-length : (is : List Item) → All Whole is → length (flatten (ids_of is)) ≡ 32 * length is
bytes-length is h = flatten_length (ids_of is) (ids_whole is h) ∙ rw (length-map is (λ (i : Item). i.id)) refl

pub front-laid : (is : List Item) (T : Table) → All Whole is → front (length is) (laid is T) ≡ spelled is
unfolding laid overwrite
front-laid is T h =
    rw (
      take_at (times_of is) (drop (length (times_of is)) T.times) (length is) (length-map is (λ (i : Item). i.time)),
      take_at (flatten (ids_of is)) (drop (length (flatten (ids_of is))) T.ids) (32 * length is) (bytes-length is h),
    )
    refl

both : (is : List Item) → zip_with (λ t d. record { time = t; id = d }) (times_of is) (ids_of is) ≡ is
unfolding zip_with
both [] = refl
both (i ∷ is) = ap (λ (l : List Item). i ∷ l) (both is)

pub items-spelled : (is : List Item) → All Whole is → items (spelled is) ≡ is
unfolding items
items-spelled is h =
    let n : length (times_of is) ≡ length (ids_of is) = rw (length-map is (λ (i : Item). i.time), length-map is (λ (i : Item). i.id)) refl in
    let ids : ids_in (length (times_of is)) (flatten (ids_of is)) ≡ ids_of is = rw (n, ← append-nil (flatten (ids_of is))) (ids_flatten (ids_of is) [] (ids_whole is h)) in
    rw ids (both is)

pub items-laid : (is : List Item) (T : Table) → All Whole is → items (front (length is) (laid is T)) ≡ is
items-laid is T h = rw (front-laid is T h) (items-spelled is h)

-- ---- the buffers

pub holds : (n : ℕ) (T : Table) → cannot_hold n T ≡ false → (n ≤ length T.times) × (32 * n ≤ length T.ids) × (n ≤ 1048576)
unfolding cannot_hold
holds n T e =
    let r = or_false (ltb (length T.times) n || ltb (length T.ids) (32 * n)) (ltb 1048576 n) e in
    let s = or_false (ltb (length T.times) n) (ltb (length T.ids) (32 * n)) r.0 in
    (ltb-false (length T.times) n s.0, ltb-false (length T.ids) (32 * n) s.1, ltb-false 1048576 n r.1)

-- a table is held by its own buffers, with any room behind it
pub held-behind : (T : Table) → wrong_size T ≡ false → (times ids : List ℕ)
    → cannot_hold (length T.times) (record { times = T.times ++ times; ids = T.ids ++ ids }) ≡ false
unfolding cannot_hold
held-behind T e times ids =
    let r = right_size T e in
    rw (
      le-ltb (length (T.times ++ times)) (length T.times) (omega (arith, length-append T.times times)),
      le-ltb (length (T.ids ++ ids)) (32 * length T.times) (omega (arith, length-append T.ids ids)),
      le-ltb 1048576 (length T.times) r.1,
    )
    refl

-- such a table is what stands at their front
pub front-behind : (T : Table) → wrong_size T ≡ false → (times ids : List ℕ)
    → front (length T.times) (record { times = T.times ++ times; ids = T.ids ++ ids }) ≡ T
front-behind T e times ids =
    rw (take_at T.times times (length T.times) refl, take_at T.ids ids (32 * length T.times) (right_size T e).0) refl

-- ---- ids one after another

pub ids_are_whole : (n : ℕ) (l : List ℕ) → 32 * n ≤ length l → WholeIds (ids_in n l)
unfolding ids_in
ids_are_whole zero l h = tt
ids_are_whole (suc n) l h = (omega (arith, length-take 32 l), ids_are_whole n (drop 32 l) (omega (arith, length-drop 32 l)))

-- the bytes behind so many ids do not count
pub ids-cut : (n : ℕ) (l : List ℕ) → ids_in n (take (32 * n) l) ≡ ids_in n l
ids-cut n l = let e : 32 * n ≡ n * 32 = omega arith in rw e (ids-part n l)

pub ids-behind : (n : ℕ) (l rest : List ℕ) → 32 * n ≤ length l → ids_in n (l ++ rest) ≡ ids_in n l
ids-behind n l rest h = sym (ids-cut n (l ++ rest)) ∙ rw (take-append-le (32 * n) l rest h) (ids-cut n l)

-- ---- check 4

-- what it asks of the needed list
pub record NeededFits (l : Lent) : Type 0 where
  pub whole : length l.needed % 32 ≡ 0
  pub room : l.session.needed * 32 ≤ length l.needed
  pub rises : rising (map (big_endian 32) (needed_ids l)) ≡ true

pub needed-fits : (l : Lent) → wrong_needed l ≡ false → NeededFits l
unfolding wrong_needed
needed-fits l e =
    let r = or_false (not (eqb (length l.needed % 32) 0) || ltb (length l.needed / 32) l.session.needed) (not (rising (map (big_endian 32) (needed_ids l)))) e in
    let s = or_false (not (eqb (length l.needed % 32) 0)) (ltb (length l.needed / 32) l.session.needed) r.0 in
    let h = ltb-false (length l.needed / 32) l.session.needed s.1 in
    let d = div-add-mod' (length l.needed) 32 in
    record { whole = eqb-true _ _ (not-false _ s.0); room = omega arith; rises = not-false _ r.1 }

pub fits-needed : (l : Lent) → NeededFits l → wrong_needed l ≡ false
unfolding wrong_needed
fits-needed l f =
    let room : l.session.needed ≤ length l.needed / 32 = (le-div_iff_mul-le {k = 32} (omega arith)).1 f.room in
    rw (f.whole, f.rises, le-ltb (length l.needed / 32) l.session.needed room) refl

-- ---- checks 1 and 2

all_small : (is : List Item) → All (λ (i : Item). i.time < 2 ^ 64 - 1) is → every (λ t. ltb t (2 ^ 64 - 1)) (times_of is) ≡ true
unfolding every
all_small [] h = refl
all_small (i ∷ is) h = rw (lt-ltb i.time (2 ^ 64 - 1) h.0) (all_small is h.1)

pub spelled-passes : (is : List Item) → All Whole is → All (λ (i : Item). i.time < 2 ^ 64 - 1) is → length is ≤ 1048576 → Ascending 0 (map key_of is)
    → Passed (spelled is)
unfolding not_rising
spelled-passes is h t n a = (
  size_holds (spelled is) (rw (length-map is (λ (i : Item). i.time)) n) (rw (length-map is (λ (i : Item). i.time)) (omega (arith, bytes-length is h))),
  rw (items-spelled is h, ascends_rise 0 (map key_of is) a, all_small is t) refl,
)
