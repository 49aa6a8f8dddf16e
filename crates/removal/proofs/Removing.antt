-- Ids of a list marked, those without a mark kept, window by window.
use Prim.Native.Nat.{ℕ, zero, suc, ◌+◌, ◌*◌, ◌-◌, ◌≤◌, ◌<◌}
use mathlib.Core.Path.{◌≡◌, refl, sym, ap, ◌∙◌}
use mathlib.Core.Bool.{Bool, true, false, cond, not, ◌||◌, or-false}
use mathlib.Core.List.{List, [], ◌∷◌, ◌++◌, flatten, append_assoc, append-nil}
use mathlib.Core.Logic.{⊎_elim}
use native.Mathlib.Omega.{arith}
use native.Mathlib.Numerals.{add-one}
use lib.Dec.{eqb, ltb}
use lib.ListN.{length, take, drop, get_or, set, replicate, length-map, length-append, length-drop, take-append-drop, get_or-map}
use lib.Seq.{take-suc, take_at, drop_at, take-set-lt, length-take-le, drop-drop}
use Rattle.std.specs.List.{copy_within}
use borrow.Author.Tests.{ne_eqb, eq-eqb, ltb-true, ltb-false}
use Rattle.message.specs.Bound.{big_endian}
use Rattle.message.specs.WellFormed.{All, Bytes, Sized}
use Rattle.message.specs.Code.{ids_in}
use Rattle.message.proofs.Exact.{by_test, bytes_take}
use Rattle.message.proofs.Forms.{ids-count}
use Rattle.message.proofs.Order.{Small, small-drop}
use Rattle.theory.proofs.Tests.{clash}
use Rattle.table.specs.Lists.{keep, rising}
use Rattle.table.proofs.Ids.{ids-take, ids-drop, ids-sized}
use Rattle.table.proofs.Keys.{Ascending, ascends, ascends_above}
use Rattle.table.proofs.Words.{big_endian-take, word_less}
use Rattle.cutting.proofs.Projection.{keep-length, all_keep}
use Rattle.ends.specs.Lists.{some, same, overwrite}
use Rattle.ends.specs.Opener.{ones}
use Rattle.ends.proofs.Tables.{same_true}
use Rattle.ends.proofs.Lists.{keep_append, ids-parts, flatten_append, flatten_length}
use Rattle.ends.proofs.Reports.{numbers, same_refl}
use Rattle.ends.proofs.Inserting.{other-number, front-rises, back-rises}
use Rattle.sortedids.specs.Rank.{below}
use Rattle.sortedids.proofs.Places.{absent_id, id_at_lem, id-there, id-nowhere}
use Rattle.index.specs.Filter.{Outside}
use Rattle.removal.specs.Removing.{named, unmarked, without, present}

-- ---- marks

same_sym : (d e : List ℕ) → same d e ≡ same e d
same_sym d e =
    by_test (same d e) (λ p. p ∙ sym (rw (same_true d e p) (same_refl e)))
    (λ p. by_test (same e d) (λ q. rw (same_true e d q) refl) (λ q. p ∙ sym q))

some-last : (d u : List ℕ) (us : List (List ℕ)) → some (same d) (us ++ (u ∷ [])) ≡ (some (same d) us || same d u)
unfolding some
some-last d u [] = or-false (same d u)
some-last d u (x ∷ us) = by_test (same d x) (λ e. rw e refl) (λ e. rw e (some-last d u us))

pub named_none : (ds : List (List ℕ)) → named [] ds ≡ replicate (length ds) 0
unfolding named some
named_none [] = refl
named_none (d ∷ ds) = ap (λ (l : List ℕ). 0 ∷ l) (named_none ds)

take-replicate : (k n : ℕ) → k ≤ n → take {A = ℕ} k (replicate n 0) ≡ replicate k 0
take-replicate zero n h = refl
take-replicate (suc k) zero h = absurd (omega arith)
take-replicate (suc k) (suc n) h = ap (λ (l : List ℕ). 0 ∷ l) (take-replicate k n (omega arith))

-- marks that are 0
pub cleared : (list : List ℕ) (count n : ℕ) → count ≤ n → (marks : List ℕ) → marks ≡ replicate n 0 → take count marks ≡ named [] (ids_in count list)
cleared list count n h marks e =
    rw (e, take-replicate count n h) (sym (named_none (ids_in count list) ∙ ap (λ (n : ℕ). replicate n 0) (ids-count count list)))

-- u is none of the ids
pub missing : (u : List ℕ) (us ds : List (List ℕ)) → some (same u) ds ≡ false → named us ds ≡ named (us ++ (u ∷ [])) ds
unfolding named some
missing u us [] e = refl
missing u us (d ∷ ds) e =
    by_test (same u d)
    (λ p. let z : true ≡ false = rw p at e in absurd (let y : ◌≡◌ {A = ℕ} 0 1 = cc in omega arith))
    (λ p. rw (some-last d u us, same_sym d u, p, or-false (some (same d) us)) (ap (λ (l : List ℕ). cond (some (same d) us) 1 0 ∷ l) (missing u us ds (rw p at e))))

-- u is below the first of the ids, or above the last of them
below-first : (u : List ℕ) (d : List ℕ) (ds : List (List ℕ)) → rising (numbers (d ∷ ds)) ≡ true → big_endian 32 u < big_endian 32 d → some (same u) (d ∷ ds) ≡ false
below-first u d ds e h = absent_id u (big_endian 32 d) (d ∷ ds) (omega arith, (ascends (numbers (d ∷ ds)) e).1) h

above_from : (lo : ℕ) (u : List ℕ) (ds : List (List ℕ)) (p : ℕ) → Ascending lo (numbers ds) → suc p ≡ length ds → big_endian 32 (get_or ds p []) < big_endian 32 u → some (same u) ds ≡ false
unfolding some
above_from lo u [] p a n h = refl
above_from lo u (d ∷ []) zero a n h = rw (other-number u d (λ e. omega arith)) refl
above_from lo u (d ∷ x ∷ ds) zero a n h = absurd (omega arith)
above_from lo u (d ∷ ds) (suc p) a n h =
    let b : suc (big_endian 32 d) ≤ get_or (numbers ds) p (big_endian 32 []) = ascends_above (suc (big_endian 32 d)) (numbers ds) p (big_endian 32 []) a.1 (rw (length-map ds (big_endian 32)) (omega arith)) in
    let c : get_or (numbers ds) p (big_endian 32 []) ≡ big_endian 32 (get_or ds p []) = get_or-map (big_endian 32) ds p [] in
    rw (other-number u d (λ e. omega arith)) (above_from (suc (big_endian 32 d)) u ds p a.1 (omega arith) h)

-- the first `count` ids of a list, and an id that begins a slice
module _ (list : List ℕ) (count : ℕ) (id : List ℕ) (rises : rising (numbers (ids_in count list)) ≡ true) where
  before-first : 0 < count → big_endian 32 id < big_endian 32 list → some (same (take 32 id)) (ids_in count list) ≡ false
  unfolding ids_in
  before-first h g =
      let n : count ≡ suc (count - 1) = omega arith in
      let r : rising (numbers (take 32 list ∷ ids_in (count - 1) (drop 32 list))) ≡ true = rw n at rises in
      rw n (below-first (take 32 id) (take 32 list) (ids_in (count - 1) (drop 32 list)) r (rw (big_endian-take 32 id, big_endian-take 32 list) g))

  behind-last : 0 < count → big_endian 32 (drop ((count - 1) * 32) list) < big_endian 32 id → some (same (take 32 id)) (ids_in count list) ≡ false
  behind-last h g =
      above_from 0 (take 32 id) (ids_in count list) (count - 1) (ascends (numbers (ids_in count list)) rises) (let z = ids-count count list in omega arith)
      (rw (id_at_lem count list (count - 1) (omega arith), big_endian-take 32 id, big_endian-take 32 (drop ((count - 1) * 32) list)) g)

  -- the first eight bytes of u are below those of the first of the ids, or above those of the last
  pub word_outside : 0 < count → Small list → Small id → Outside (big_endian 8 list) (big_endian 8 (drop ((count - 1) * 32) list)) (big_endian 8 id)
      → some (same (take 32 id)) (ids_in count list) ≡ false
  word_outside h hl hi out =
      ⊎_elim
      (λ w. before-first h (ltb-true _ _ (word_less id list 0 hi hl (omega arith) w)))
      (λ w. behind-last h (ltb-true _ _ (word_less (drop ((count - 1) * 32) list) id 0 (small-drop ((count - 1) * 32) list hl) hi (omega arith) w)))
      out

-- u is the one at place p
found_from : (lo : ℕ) (u : List ℕ) (us ds : List (List ℕ)) (p : ℕ) → Ascending lo (numbers ds) → p < length ds → get_or ds p [] ≡ u
    → set (named us ds) p 1 ≡ named (us ++ (u ∷ [])) ds
unfolding named
found_from lo u us [] p a h e = absurd (omega arith)
found_from lo u us (d ∷ ds) zero a h e =
    let behind : some (same u) ds ≡ false = absent_id u (suc (big_endian 32 d)) ds a.1 (rw e (omega arith)) in
    rw (some-last d u us, e, same_refl u, ← missing u us ds behind) (ap (λ (b : Bool). cond b 1 0 ∷ named us ds) (sym (or_true_right (some (same u) us))))
  where
    or_true_right : (b : Bool) → (b || true) ≡ true
    or_true_right true = refl
    or_true_right false = refl
found_from lo u us (d ∷ ds) (suc p) a h e =
    let b : suc (big_endian 32 d) ≤ get_or (numbers ds) p (big_endian 32 []) = ascends_above (suc (big_endian 32 d)) (numbers ds) p (big_endian 32 []) a.1 (rw (length-map ds (big_endian 32)) (omega arith)) in
    let c : get_or (numbers ds) p (big_endian 32 []) ≡ big_endian 32 u = get_or-map (big_endian 32) ds p [] ∙ ap (big_endian 32) e in
    rw (some-last d u us, other-number d u (λ q. omega arith), or-false (some (same d) us))
    (ap (λ (l : List ℕ). cond (some (same d) us) 1 0 ∷ l) (found_from (suc (big_endian 32 d)) u us ds p a.1 (omega arith) e))

module _ (list : List ℕ) (count : ℕ) (id : List ℕ) (p : ℕ) (rises : rising (numbers (ids_in count list)) ≡ true) (place : p ≡ below (take 32 id) (ids_in count list))
    (known : some (same (take 32 id)) (ids_in count list) ≡ true) where
  pub found_inside : p < count
  found_inside = by_test (ltb p count) (λ e. ltb-true p count e) (λ e. clash known (id-nowhere (take 32 id) list count p rises place (ltb-false p count e)))

  pub found-marked : (us : List (List ℕ)) (marks : List ℕ) → take count marks ≡ named us (ids_in count list)
      → take count (set marks p 1) ≡ named (us ++ (take 32 id ∷ [])) (ids_in count list)
  found-marked us marks before =
      let there : same (take 32 id) (take 32 (drop (p * 32) list)) ≡ true = sym (id-there (take 32 id) list count p rises place found_inside) ∙ known in
      take-set-lt count marks p 1 found_inside
      ∙ ap (λ (l : List ℕ). set l p 1) before
      ∙ found_from 0 (take 32 id) us (ids_in count list) p (ascends (numbers (ids_in count list)) rises) (rw (ids-count count list) found_inside)
      (id_at_lem count list p found_inside ∙ sym (same_true (take 32 id) (take 32 (drop (p * 32) list)) there))

-- ---- ids one after another

pub ids-last : (k : ℕ) (l : List ℕ) → ids_in (k + 1) l ≡ ids_in k l ++ (take 32 (drop (k * 32) l) ∷ [])
unfolding ids_in
ids-last k l = ids-parts k 1 l

-- ---- ids looked for one after another

-- the ids ds with the marks and the number of those that are found, of the first j ids
pub record Found (ds : List (List ℕ)) (ids marks : List ℕ) (count found j : ℕ) : Type 0 where
  pub marked : take count marks ≡ named (ids_in j ids) ds
  pub number : found ≡ length (present (ids_in j ids) ds)

abbrev id_of : List ℕ → ℕ → List ℕ
id_of ids j = take 32 (drop (j * 32) ids)

module _ (ds : List (List ℕ)) (ids : List ℕ) (count : ℕ) where
  present-next : (j : ℕ) → present (ids_in (j + 1) ids) ds ≡ present (ids_in j ids) ds ++ cond (some (same (id_of ids j)) ds) (id_of ids j ∷ []) []
  unfolding present keep
  present-next j = rw (ids-last j ids) (keep_append (λ u. some (same u) ds) (ids_in j ids) (id_of ids j ∷ []))

  pub found_none : (marks : List ℕ) → take count marks ≡ named [] ds → Found ds ids marks count 0 0
  unfolding present keep ids_in
  found_none marks e = record { marked = e; number = refl }

  pub found-few : (marks : List ℕ) (found j : ℕ) → Found ds ids marks count found j → found ≤ j
  unfolding present
  found-few marks found j f = let e = f.number in omega (arith, keep-length (λ u. some (same u) ds) (ids_in j ids), ids-count j ids)

  module _ (marks : List ℕ) (found j : ℕ) (f : Found ds ids marks count found j) where
    pub found-one : (after : List ℕ) → some (same (id_of ids j)) ds ≡ true → take count after ≡ named (ids_in j ids ++ (id_of ids j ∷ [])) ds
        → Found ds ids after count (found + 1) (j + 1)
    found-one after e h = record {
      marked = rw (ids-last j ids) h;
      number = let z = f.number in rw (present-next j, e) (omega (arith, length-append (present (ids_in j ids) ds) (id_of ids j ∷ [])));
    }

    pub found-other : (after : List ℕ) → some (same (id_of ids j)) ds ≡ false → take count after ≡ named (ids_in j ids ++ (id_of ids j ∷ [])) ds
        → Found ds ids after count found (j + 1)
    found-other after e h = record {
      marked = rw (ids-last j ids) h;
      number = rw (present-next j, e, append-nil (present (ids_in j ids) ds)) f.number;
    }

  -- ids that are not there are stepped over
  pub found_past : (marks : List ℕ) (found n j : ℕ) → ((i : ℕ) → j ≤ i → i < j + n → some (same (id_of ids i)) ds ≡ false)
      → Found ds ids marks count found j → Found ds ids marks count found (j + n)
  found_past marks found zero j h f = let e : j + 0 ≡ j = omega arith in rw e f
  found_past marks found (suc n) j h f =
      let e : j + suc n ≡ j + 1 + n = omega arith in
      let none = h j (omega arith) (omega arith) in
      rw e (found_past marks found n (j + 1) (λ i l g. h i (omega arith) (omega arith)) (found-other marks found j f marks none (f.marked ∙ missing (id_of ids j) (ids_in j ids) ds none)))

-- those whose first words lie outside of the list's
pub found-outside : (list ids : List ℕ) (count low high : ℕ) → 0 < count → rising (numbers (ids_in count list)) ≡ true → low ≡ big_endian 8 list → high ≡ big_endian 8 (drop ((count - 1) * 32) list)
    → Small list → Small ids → (marks : List ℕ) (found j r : ℕ) → j ≤ r → ((i : ℕ) → j ≤ i → i < r → Outside low high (big_endian 8 (drop (i * 32) ids)))
    → Found (ids_in count list) ids marks count found j → Found (ids_in count list) ids marks count found r
found-outside list ids count low high some rises first last small smalls marks found j r h out f =
    let e : j + (r - j) ≡ r = omega arith in
    rw e at
    (found_past (ids_in count list) ids count marks found (r - j) j
    (λ i l g. word_outside list count (drop (i * 32) ids) rises some small (small-drop (i * 32) ids smalls) (rw (← first, ← last) (out i l (omega arith)))) f)

-- ---- the marks kept or not

pub unmarked-last : (ms : List ℕ) (ds : List (List ℕ)) (m : ℕ) (d : List ℕ) → length ms ≡ length ds
    → unmarked (ms ++ (m ∷ [])) (ds ++ (d ∷ [])) ≡ unmarked ms ds ++ cond (eqb m 0) (d ∷ []) []
unfolding unmarked
unmarked-last [] [] m d e = refl
unmarked-last [] (x ∷ ds) m d e = absurd (omega arith)
unmarked-last (x ∷ ms) [] m d e = absurd (omega arith)
unmarked-last (x ∷ ms) (y ∷ ds) m d e = by_test (eqb x 0) (λ p. rw (p, unmarked-last ms ds m d (omega arith)) refl) (λ p. rw p (unmarked-last ms ds m d (omega arith)))

pub unmarked-named : (us ds : List (List ℕ)) → unmarked (named us ds) ds ≡ without us ds
unfolding unmarked named without keep
unmarked-named us [] = refl
unmarked-named us (d ∷ ds) = by_test (some (same d) us) (λ e. rw (e, unmarked-named us ds) refl) (λ e. rw (e, unmarked-named us ds) refl)

pub left-count : (us ds : List (List ℕ)) → length (without us ds) + ones (named us ds) ≡ length ds
unfolding named without keep
left-count us [] = refl
left-count us (d ∷ ds) = let h = left-count us ds in by_test (some (same d) us) (λ e. rw e (omega arith)) (λ e. rw e (omega arith))

pub unmarked-sized : (ms : List ℕ) (ds : List (List ℕ)) → All (Sized 32) ds → All (Sized 32) (unmarked ms ds)
unfolding unmarked
unmarked-sized [] ds h = tt
unmarked-sized (m ∷ ms) [] h = tt
unmarked-sized (m ∷ ms) (d ∷ ds) h = by_test (eqb m 0) (λ e. rw e (h.0, unmarked-sized ms ds h.1)) (λ e. rw e (unmarked-sized ms ds h.1))

pub without-append : (us k l : List (List ℕ)) → without us (k ++ l) ≡ without us k ++ without us l
unfolding without
without-append us k l = keep_append (λ d. not (some (same d) us)) k l

pub without-sized : (us l : List (List ℕ)) → All (Sized 32) l → All (Sized 32) (without us l)
unfolding without
without-sized us l h = all_keep (Sized 32) (λ d. not (some (same d) us)) l h

pub without-few : (us l : List (List ℕ)) → length (without us l) ≤ length l
unfolding without
without-few us l = keep-length (λ d. not (some (same d) us)) l

-- ---- the ids of a window rise

pub window_rises : (list : List ℕ) (size lo count : ℕ) → lo + count ≤ size → rising (numbers (ids_in size list)) ≡ true → rising (numbers (ids_in count (drop (lo * 32) list))) ≡ true
window_rises list size lo count h e =
    rw (← ids-take count (size - lo) (drop (lo * 32) list) (omega arith), ← ids-drop lo size list)
    (front-rises count (drop lo (ids_in size list)) (back-rises lo (ids_in size list) e))

-- ---- ids written behind the ids before them

-- the ids U stand from place a on in the buffer s
abbrev pub shown : List ℕ → ℕ → List (List ℕ) → List ℕ
shown s a U = take a s ++ overwrite (flatten U) (drop a s)

module _ (s : List ℕ) (a : ℕ) (U : List (List ℕ)) (b : ℕ) (ends : b ≡ a + length (flatten U)) (inside : b ≤ length s) where
  front_long : length (take a s ++ flatten U) ≡ b
  front_long = omega (arith, length-append (take a s) (flatten U), length-take-le a s (omega arith))

  shown_is : shown s a U ≡ (take a s ++ flatten U) ++ drop b s
  unfolding overwrite
  shown_is = rw (drop-drop (length (flatten U)) a s, ends) (sym (append_assoc (take a s) (flatten U) (drop (a + length (flatten U)) s)))

  pub shown-front : take b (shown s a U) ≡ take a s ++ flatten U
  shown-front = rw shown_is (take_at (take a s ++ flatten U) (drop b s) b front_long)

  pub shown-behind : (k : ℕ) → b ≤ k → drop k (shown s a U) ≡ drop k s
  shown-behind k h =
      let e : k ≡ b + (k - b) = omega arith in
      rw (e, ← drop-drop (k - b) b (shown s a U), ← drop-drop (k - b) b s, shown_is, drop_at (take a s ++ flatten U) (drop b s) b front_long) refl

  pub shown-length : length (shown s a U) ≡ length s
  shown-length = rw shown_is (omega (arith, length-append (take a s ++ flatten U) (drop b s), front_long, length-drop b s))

  -- one id more
  pub shown-more : (t x : List ℕ) → length x ≡ 32 → t ≡ take b (shown s a U) ++ (x ++ drop (b + 32) (shown s a U)) → t ≡ shown s a (U ++ (x ∷ []))
  unfolding overwrite flatten
  shown-more t x h e =
      let bytes : flatten (U ++ (x ∷ [])) ≡ flatten U ++ x = rw (flatten_append U (x ∷ []), append-nil x) refl in
      let long : length (flatten U ++ x) ≡ length (flatten U) + 32 = omega (arith, length-append (flatten U) x) in
      let behind : drop (length (flatten U) + 32) (drop a s) ≡ drop (b + 32) s = let g : a + (length (flatten U) + 32) ≡ b + 32 = omega arith in rw (drop-drop (length (flatten U) + 32) a s, g) refl in
      e ∙ rw (shown-front, shown-behind (b + 32) (omega arith), bytes, long, behind)
      (append_assoc (take a s) (flatten U) (x ++ drop (b + 32) s) ∙ ap (λ (l : List ℕ). take a s ++ l) (sym (append_assoc (flatten U) x (drop (b + 32) s))))

-- ---- 32 bytes copied

pub copied : (s t : List ℕ) (from end to : ℕ) → end ≡ from + 32 → t ≡ copy_within s from end to → t ≡ take to s ++ (take 32 (drop from s) ++ drop (to + 32) s)
copied s t from end to h e =
    let n : end - from ≡ 32 = omega arith in
    rw n at e ∙ append_assoc (take to s) (take 32 (drop from s)) (drop (to + 32) s)

-- ---- the ids of a window without a mark, moved to the front

unmarked-few : (ms : List ℕ) (ds : List (List ℕ)) → length (unmarked ms ds) ≤ length ds
unfolding unmarked
unmarked-few [] ds = omega arith
unmarked-few (m ∷ ms) [] = omega arith
unmarked-few (m ∷ ms) (d ∷ ds) = let h = unmarked-few ms ds in by_test (eqb m 0) (λ e. rw e (omega arith)) (λ e. rw e (omega arith))

-- the first k ids from place lo on without their marked ones
abbrev pub kept_ids : List ℕ → ℕ → List ℕ → ℕ → List (List ℕ)
kept_ids s lo marks k = unmarked (take k marks) (ids_in k (drop (lo * 32) s))

-- k ids of the window are passed
pub record Keeping (s : List ℕ) (kept lo count : ℕ) (marks t : List ℕ) (n k : ℕ) : Type 0 where
  pub few : k ≤ count
  pub size : n ≡ kept + length (kept_ids s lo marks k)
  pub bytes : t ≡ shown s (kept * 32) (kept_ids s lo marks k)
  pub long : length t ≡ length s

module _ (s : List ℕ) (kept lo count : ℕ) (marks : List ℕ) (small : Bytes s) (before : kept ≤ lo) (inside : (lo + count) * 32 ≤ length s) (enough : count ≤ length marks) where
  pub keeping_starts : Keeping s kept lo count marks s kept 0
  unfolding unmarked overwrite flatten
  keeping_starts = record { few = omega arith; size = omega arith; bytes = sym (take-append-drop (kept * 32) s); long = refl }

  ids-bytes : (k : ℕ) → k ≤ count → length (flatten (kept_ids s lo marks k)) ≡ 32 * length (kept_ids s lo marks k)
  ids-bytes k h =
      flatten_length (kept_ids s lo marks k)
      (unmarked-sized (take k marks) (ids_in k (drop (lo * 32) s)) (ids-sized k (drop (lo * 32) s) (bytes_take (lo * 32) s small).1 (omega (arith, length-drop (lo * 32) s))))

  ids-few : (k : ℕ) → length (kept_ids s lo marks k) ≤ k
  ids-few k = omega (arith, unmarked-few (take k marks) (ids_in k (drop (lo * 32) s)), ids-count k (drop (lo * 32) s))

  module _ (t : List ℕ) (n k : ℕ) (h : Keeping s kept lo count marks t n k) where
    pub keeping_few : n ≤ lo + k
    keeping_few = let e = h.size in omega (arith, ids-few k)

    module _ (more : k < count) where
      next-ids : kept_ids s lo marks (k + 1) ≡ kept_ids s lo marks k ++ cond (eqb (get_or marks k 0) 0) (take 32 (drop (k * 32) (drop (lo * 32) s)) ∷ []) []
      next-ids =
          rw (ids-last k (drop (lo * 32) s), add-one k, take-suc marks k 0 (omega arith))
          (unmarked-last (take k marks) (ids_in k (drop (lo * 32) s)) (get_or marks k 0) (take 32 (drop (k * 32) (drop (lo * 32) s)))
          (length-take-le k marks (omega arith) ∙ sym (ids-count k (drop (lo * 32) s))))

      pub keeping_passes : (get_or marks k 0 ≡ 0 → ⊥) → Keeping s kept lo count marks t n (k + 1)
      keeping_passes f =
          let same : kept_ids s lo marks (k + 1) ≡ kept_ids s lo marks k = next-ids ∙ rw (ne_eqb (get_or marks k 0) 0 f) (append-nil (kept_ids s lo marks k)) in
          record { few = omega arith; size = rw same h.size; bytes = rw same h.bytes; long = h.long }

      pub keeping_keeps : get_or marks k 0 ≡ 0 → (u : List ℕ) → u ≡ take (n * 32) t ++ (take 32 (drop ((lo + k) * 32) t) ++ drop (n * 32 + 32) t) → Keeping s kept lo count marks u (n + 1) (k + 1)
      keeping_keeps f u e =
          let U = kept_ids s lo marks k in
          let x : List ℕ = take 32 (drop ((lo + k) * 32) s) in
          let place : lo * 32 + k * 32 ≡ (lo + k) * 32 = omega arith in
          let one : kept_ids s lo marks (k + 1) ≡ kept_ids s lo marks k ++ (x ∷ []) = next-ids ∙ rw (eq-eqb (get_or marks k 0) 0 f, drop-drop (k * 32) (lo * 32) s, place) refl in
          let z = h.size in
          let ends : n * 32 ≡ kept * 32 + length (flatten (kept_ids s lo marks k)) = omega (arith, ids-bytes k (omega arith)) in
          let room : n * 32 ≤ length s = omega (arith, ids-few k) in
          let read : drop ((lo + k) * 32) t ≡ drop ((lo + k) * 32) s = rw h.bytes (shown-behind s (kept * 32) U (n * 32) ends room ((lo + k) * 32) (omega (arith, ids-few k))) in
          let sized : length x ≡ 32 = length-take-le 32 (drop ((lo + k) * 32) s) (omega (arith, length-drop ((lo + k) * 32) s)) in
          let written : u ≡ shown s (kept * 32) (U ++ (x ∷ [])) =
          shown-more s (kept * 32) U (n * 32) ends room u x sized (rw (← h.bytes, ← read) e) in
          let bytes : u ≡ shown s (kept * 32) (kept_ids s lo marks (k + 1)) = rw one written in
          record {
            few = omega arith;
            size = rw one (omega (arith, length-append U (x ∷ [])));
            bytes = bytes;
            long = rw bytes
                (shown-length s (kept * 32) (kept_ids s lo marks (k + 1)) (kept * 32 + length (flatten (kept_ids s lo marks (k + 1)))) refl
                (omega (arith, ids-bytes (k + 1) (omega arith), ids-few (k + 1))));
          }

-- ---- window by window

pub unmarked_is : (ms : List ℕ) (us ds : List (List ℕ)) → ms ≡ named us ds → unmarked ms ds ≡ without us ds
unmarked_is ms us ds e = rw e (unmarked-named us ds)

-- how many ids of a window are left, by the marks that are 1
pub window_left : (ms : List ℕ) (us : List (List ℕ)) (count : ℕ) (list : List ℕ) → ms ≡ named us (ids_in count list) → (r : ℕ) → r ≡ ones ms
    → (r ≤ count) × (count - r ≡ length (without us (ids_in count list)))
window_left ms us count list e r f =
    let g : r ≡ ones (named us (ids_in count list)) = rw e at f in
    (omega (arith, left-count us (ids_in count list), ids-count count list), omega (arith, left-count us (ids_in count list), ids-count count list))

pub left-few : (us : List (List ℕ)) (lo : ℕ) (list : List ℕ) → length (without us (ids_in lo list)) ≤ lo
left-few us lo list = omega (arith, without-few us (ids_in lo list), ids-count lo list)

without-next : (us : List (List ℕ)) (lo count : ℕ) (list : List ℕ)
    → without us (ids_in (lo + count) list) ≡ without us (ids_in lo list) ++ without us (ids_in count (drop (lo * 32) list))
without-next us lo count list = rw (ids-parts lo count list) (without-append us (ids_in lo list) (ids_in count (drop (lo * 32) list)))

pub count_next : (us : List (List ℕ)) (lo count : ℕ) (list : List ℕ) (left r : ℕ) → left ≡ length (without us (ids_in lo list)) → r ≡ length (without us (ids_in count (drop (lo * 32) list)))
    → left + r ≡ length (without us (ids_in (lo + count) list))
count_next us lo count list left r e f =
    rw (without-next us lo count list, length-append (without us (ids_in lo list)) (without us (ids_in count (drop (lo * 32) list)))) (omega arith)

pub none_left : (us : List (List ℕ)) (list : List ℕ) → 0 ≡ length (without us (ids_in 0 list))
unfolding without keep ids_in
none_left us list = refl

-- the first lo ids of the buffer s are passed; those that are left stand at the front of t
pub record TakingOut (us : List (List ℕ)) (s t : List ℕ) (kept lo : ℕ) : Type 0 where
  pub long : length t ≡ length s
  pub size : kept ≡ length (without us (ids_in lo s))
  pub bytes : t ≡ overwrite (flatten (without us (ids_in lo s))) s

pub taking-starts : (us : List (List ℕ)) (s : List ℕ) → TakingOut us s s 0 0
unfolding without keep ids_in overwrite flatten
taking-starts us s = record { long = refl; size = refl; bytes = refl }

module _ (us : List (List ℕ)) (s : List ℕ) (small : Bytes s) (t : List ℕ) (kept lo : ℕ) (h : TakingOut us s t kept lo) (inside : lo * 32 ≤ length s) where
  abbrev W : List (List ℕ)
  W = without us (ids_in lo s)

  taken-bytes : length (flatten W) ≡ 32 * length W
  taken-bytes = flatten_length W (without-sized us (ids_in lo s) (ids-sized lo s small (omega arith)))

  pub taking-few : kept ≤ lo
  taking-few = let e = h.size in omega (arith, left-few us lo s)

  ends : kept * 32 ≡ 0 + length (flatten W)
  ends = let e = h.size in omega (arith, taken-bytes)

  room : kept * 32 ≤ length s
  room = omega (arith, taking-few)

  pub taking-behind : drop (lo * 32) t ≡ drop (lo * 32) s
  taking-behind = rw h.bytes (shown-behind s 0 W (kept * 32) ends room (lo * 32) (omega (arith, taking-few)))

  module _ (count : ℕ) (fits : (lo + count) * 32 ≤ length s) (r : ℕ) (u : List ℕ) where
    abbrev K : List (List ℕ)
    K = without us (ids_in count (drop (lo * 32) s))

    pub taking_goes : r ≡ kept + length (without us (ids_in count (drop (lo * 32) t)))
        → u ≡ take (kept * 32) t ++ overwrite (flatten (without us (ids_in count (drop (lo * 32) t)))) (drop (kept * 32) t)
        → length u ≡ length t → TakingOut us s u r (lo + count)
    unfolding overwrite
    taking_goes e f g =
        let e' : r ≡ kept + length (without us (ids_in count (drop (lo * 32) s))) = rw taking-behind at e in
        let front : take (kept * 32) t ≡ flatten W = rw h.bytes (shown-front s 0 W (kept * 32) ends room) in
        let behind : drop (kept * 32) t ≡ drop (kept * 32) s = rw h.bytes (shown-behind s 0 W (kept * 32) ends room (kept * 32) (omega arith)) in
        let f' : u ≡ flatten W ++ (flatten K ++ drop (length (flatten K)) (drop (kept * 32) s)) = rw (taking-behind, front, behind) at f in
        let z : kept * 32 + length (flatten K) ≡ length (flatten W ++ flatten K) = omega (arith, ends, length-append (flatten W) (flatten K)) in
        let all : without us (ids_in (lo + count) s) ≡ W ++ K = without-next us lo count s in
        record {
          long = g ∙ h.long;
          size = let y = h.size in rw all (omega (arith, length-append W K));
          bytes = rw (all, flatten_append W K) (f' ∙ rw (drop-drop (length (flatten K)) (kept * 32) s, z) (sym (append_assoc (flatten W) (flatten K) (drop (length (flatten W ++ flatten K)) s))));
        }
