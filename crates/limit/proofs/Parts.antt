-- An ids range that is cut: its bound, and the own items there.
use Prim.Native.Nat.{ℕ, zero, suc, ◌-◌, ◌^◌, ◌≤◌, ◌<◌}
use mathlib.Core.Path.{◌≡◌, refl, sym, ap, ◌∙◌}
use mathlib.Core.Bool.{◌&&◌}
use mathlib.Core.List.{List, [], ◌∷◌, map}
use native.Mathlib.Nat.{add-zero}
use native.Mathlib.Omega.{arith}
use lib.Dec.{leb, ltb}
use lib.ListN.{length, take, drop, get_or, length-map, length-take, get_or-map}
use lib.Seq.{get_or-take, get_or-drop, length-take-le}
use Rattle.message.specs.Bound.{Bound, infinity, finite, big_endian, id_space, key}
use Rattle.message.specs.Message.{ids}
use Rattle.message.specs.WellFormed.{All, Bytes, Sized, LawfulBound, LawfulPayload}
use Rattle.message.proofs.Bounds.{below-infinity}
use Rattle.theory.specs.Table.{between, Rising, Below}
use Rattle.theory.specs.Protocol.{ids_in, fingerprint_in}
use Rattle.theory.proofs.Tables.{rising_get_d, rising-next, rising-between, below_get_d, below-between, between_nest, between-take}
use Rattle.table.specs.Table.{Item, key_of, Table, items, within, ids_of}
use Rattle.table.specs.Private.{Passed}
use Rattle.table.proofs.Items.{map-take, right_size, items-length, items-whole, items-timed}
use Rattle.table.proofs.Keys.{keys_ascend}
use Rattle.cutting.specs.Cutting.{shortest, fingerprint_of, no_item, nth, inner_bound}
use Rattle.cutting.proofs.Numbers.{Whole, shortest-between, shortest-lawful}
use Rattle.cutting.proofs.Projection.{protocol, items_back, ids-back, within_keys, within-whole, keep-length, all_keep}

-- the items of a table that was checked
pub record OwnItems (T : List Item) : Type 0 where
  pub whole : All Whole T
  pub timed : All (λ (i : Item). i.time < 2 ^ 64 - 1) T
  pub few : length T ≤ 1048576
  pub rises : Rising 0 (map key_of T)
  pub below : Below (key infinity) (map key_of T)

-- ---- lists

module _ {A : Type 0} (P : A → Type 0) where
  pub all_take : (n : ℕ) (l : List A) → All P l → All P (take n l)
  all_take zero l h = tt
  all_take (suc n) [] h = tt
  all_take (suc n) (x ∷ l) h = (h.0, all_take n l h.1)

  pub all_at : (d : A) (n : ℕ) (l : List A) → All P l → n < length l → P (get_or l n d)
  all_at d n [] h lt = absurd (omega arith)
  all_at d zero (x ∷ l) h lt = h.0
  all_at d (suc n) (x ∷ l) h lt = all_at d n l h.1 (omega arith)

within-few : (x y : Bound) (T : List Item) → length (within x y T) ≤ length T
unfolding within
within-few x y T = keep-length (λ i. leb (key x) (key_of i) && ltb (key_of i) (key y)) T

within-timed : (x y : Bound) (T : List Item) → All (λ (i : Item). i.time < 2 ^ 64 - 1) T → All (λ (i : Item). i.time < 2 ^ 64 - 1) (within x y T)
unfolding within
within-timed x y T h = all_keep (λ (i : Item). i.time < 2 ^ 64 - 1) (λ i. leb (key x) (key_of i) && ltb (key_of i) (key y)) T h

pub ids_whole : (own : List Item) → All Whole own → All (Sized 32) (ids_of own)
ids_whole [] h = tt
ids_whole (i ∷ own) h = (h.0, ids_whole own h.1)

key-no-item : key_of no_item ≡ 0
unfolding key_of key big_endian id_space
key-no-item = refl

pub nth-key : (n : ℕ) (is : List Item) → get_or (map key_of is) n 0 ≡ key_of (nth is n)
nth-key n is = rw key-no-item at (get_or-map key_of is n no_item)

-- the last of the first items, and the next
pub inner_shortest : (k : ℕ) (own : List Item) → suc k < length own → inner_bound (take (suc k) own) (drop (suc k) own) ≡ shortest (nth own k) (nth own (suc k))
unfolding inner_bound
inner_shortest k own h =
    let len : length (take (suc k) own) ≡ suc k = length-take-le (suc k) own (omega arith) in
    let last : length (take (suc k) own) - 1 ≡ k = omega arith in
    let p : nth (take (suc k) own) k ≡ nth own k = get_or-take (suc k) own k no_item (omega arith) in
    let q : nth (drop (suc k) own) 0 ≡ nth own (suc k) = get_or-drop (suc k) own 0 no_item ∙ ap (nth own) (add-zero (suc k)) in
    rw (last, p, q) refl

-- ---- the range from x to y, cut after the first k + 1 of its own ids

module _ (T : List Item) (o : OwnItems T) (x y : Bound) (k : ℕ) (more : suc k < length (within x y T)) where
  abbrev own : List Item
  own = within x y T

  abbrev pub cut_bound : Bound
  cut_bound = inner_bound (take (suc k) own) (drop (suc k) own)

  own-rises : Rising (key x) (map key_of own)
  own-rises = rw (within_keys x y T) (rising-between 0 (map key_of T) (key x) (key y) o.rises)

  keys_more : suc k < length (map key_of own)
  keys_more = rw (length-map own key_of) more

  neighbours : key_of (nth own k) < key_of (nth own (suc k))
  neighbours = rw (nth-key k own, nth-key (suc k) own) at (rising-next (key x) (map key_of own) k own-rises keys_more)

  whole_at_lem : (n : ℕ) → n < length own → Whole (nth own n)
  whole_at_lem n h = all_at Whole no_item n own (within-whole x y T o.whole) h

  bound_lies : (key_of (nth own k) < key cut_bound) × (key cut_bound ≤ key_of (nth own (suc k)))
  bound_lies =
      rw (inner_shortest k own more)
      (shortest-between (nth own k) (nth own (suc k)) (whole_at_lem k (omega arith)) (whole_at_lem (suc k) more) neighbours)

  pub cut-above : key x < key cut_bound
  cut-above =
      let a : key x ≤ key_of (nth own k) = rw (nth-key k own) at (rising_get_d (key x) (map key_of own) k own-rises (omega (arith, keys_more))) in
      omega (arith, bound_lies.0)

  pub cut_below : key cut_bound < key y
  cut_below =
      let b : Below (key y) (map key_of own) = rw (within_keys x y T) (below-between (map key_of T) (key x) (key y)) in
      let a : key_of (nth own (suc k)) < key y = rw (nth-key (suc k) own) at (below_get_d (key y) (map key_of own) (suc k) b keys_more) in
      omega (arith, bound_lies.1)

  pub cut-lawful : LawfulBound cut_bound
  cut-lawful =
      let t = all_at (λ (i : Item). i.time < 2 ^ 64 - 1) no_item (suc k) own (within-timed x y T o.timed) more in
      rw (inner_shortest k own more)
      (shortest-lawful (nth own k) (nth own (suc k)) (whole_at_lem k (omega arith)) (whole_at_lem (suc k) more) neighbours (omega arith))

  pub cut-listed : LawfulPayload (ids (ids_of (take (suc k) own)))
  cut-listed = (
    omega (arith, length-map (take (suc k) own) (λ (i : Item). i.id), length-take (suc k) own, within-few x y T, o.few),
    ids_whole (take (suc k) own) (all_take Whole (suc k) own (within-whole x y T o.whole)),
  )

  -- the first k + 1 are the own items up to that bound
  pub cut-own : between (map key_of T) (key x) (key cut_bound) ≡ map key_of (take (suc k) own)
  cut-own =
      sym (between_nest (map key_of T) (key x) (key y) (key x) (key cut_bound) (omega arith) (omega (arith, cut_below)))
      ∙ rw (← within_keys x y T)
      (between-take (key cut_bound) k (map key_of own) (key x) own-rises keys_more (rw (nth-key k own) bound_lies.0) (rw (nth-key (suc k) own) bound_lies.1))
      ∙ sym (map-take key_of (suc k) own)

  pub cut-ids : ids_in protocol (map key_of T) (key x) (key cut_bound) ≡ map (big_endian 32) (ids_of (take (suc k) own))
  unfolding protocol
  cut-ids = rw cut-own (ids-back (take (suc k) own) (all_take Whole (suc k) own (within-whole x y T o.whole)))

-- the own fingerprint of a range
pub own-print : (T : List Item) → OwnItems T → (x y : Bound) → fingerprint_in protocol (map key_of T) (key x) (key y) ≡ fingerprint_of (within x y T)
unfolding protocol
own-print T o x y = rw (← within_keys x y T, items_back (within x y T) (within-whole x y T o.whole)) refl

-- ---- a table that was checked

-- an item as the bound with its time and its id
abbrev pub AsBound : Item → Type 0
AsBound i = LawfulBound (finite i.time i.id)

pub as_bounds : (is : List Item) → All Whole is → All (λ (i : Item). i.time < 2 ^ 64 - 1) is → All AsBound is
as_bounds [] w t = tt
as_bounds (i ∷ is) w t = ((omega (arith, t.0), omega (arith, w.0.0), w.0.1), as_bounds is w.1 t.1)

keys_below : (is : List Item) → All AsBound is → Below (key infinity) (map key_of is)
unfolding key_of
keys_below [] h = tt
keys_below (i ∷ is) h = (below-infinity i.time i.id h.0, keys_below is h.1)

pub own-items : (T : Table) → Bytes T.ids → Passed T → OwnItems (items T)
own-items T h ok = record {
  whole = items-whole T h ok.0;
  timed = items-timed T ok.1;
  few = omega (arith, items-length T, right_size T ok.0);
  rises = keys_ascend T ok.1;
  below = keys_below (items T) (as_bounds (items T) (items-whole T h ok.0) (items-timed T ok.1));
}
