-- What the ranges of a reply add to the needed list.
use Prim.Native.Nat.{ℕ, suc, ◌+◌, ◌-◌, ◌*◌, ◌≤◌, ◌<◌}
use mathlib.Core.Path.{◌≡◌, refl, sym, ap, ◌∙◌}
use mathlib.Core.Bool.{Bool, true, false, not, ◌&&◌, ◌||◌, and-false}
use mathlib.Core.List.{List, [], ◌∷◌, ◌++◌, foldr, flatten}
use native.Mathlib.Omega.{arith}
use lib.ListN.{length, take, drop, length-append, length-drop}
use lib.Seq.{drop-drop}
use Rattle.message.specs.Varint.{spell_varint}
use Rattle.message.specs.Bound as B
use Rattle.message.specs.Message as M
use Rattle.message.specs.Message.{Range, range, skip, fingerprint, ids, spell_payload, spell_range, spell_ranges}
use Rattle.message.specs.WellFormed.{All, Bytes, Sized, LawfulPayload, Rising}
use Rattle.message.specs.Code.{ids_in, payload_of}
use Rattle.message.specs.declared.Payload.{Payload}
use Rattle.message.proofs.Exact.{by_test, bytes_take}
use Rattle.message.proofs.Messages.{ranges-back}
use Rattle.writer.specs.Private as writer
use Rattle.writer.proofs.Laying.{rest, rest_is}
use Rattle.reader.specs.Private.{lower_at, reading_at, ranges_at}
use Rattle.reader.proofs.Stepping.{ranges_rise, reading-ends}
use Rattle.table.specs.Lists.{keep}
use Rattle.table.specs.Table.{Item, Table, items, within, ids_of}
use Rattle.table.specs.Private.{Passed}
use Rattle.table.proofs.Items.{right_size, ids-run}
use Rattle.cutting.specs.Private.{own_in, upper_of, Inside}
use Rattle.cutting.specs.declared.Span.{Span}
use Rattle.cutting.proofs.Projection.{keep-length}
use Rattle.ends.specs.Lists.{some, same}
use Rattle.ends.specs.Calls.{each_range}
use Rattle.ends.specs.Opener.{unowned, insert, needed_after}
use Rattle.ends.proofs.Lists.{some-append, flatten_length}
use Rattle.ends.proofs.Tables.{same_true}
use Rattle.ends.proofs.Reports.{unowned-sized}
use Rattle.walk.specs.Walking.{starts, Walking, Stepped}
use Rattle.walk.specs.declared.Walk.{Walk}
use Rattle.walk.specs.declared.Step.{Step}
use Rattle.walk.specs.Adding.{added_from, others}
use Rattle.walk.proofs.Steps.{lower-starts}

-- ---- lists

-- a test of ids goes by their bytes alone
pub some-keep : (d : List ℕ) (q : List ℕ → Bool) (l : List (List ℕ)) → some (same d) (keep q l) ≡ (some (same d) l && q d)
unfolding some keep
some-keep d q [] = refl
some-keep d q (e ∷ l) =
    by_test (same d e)
    (λ s. by_test (q e)
    (λ k. let h : q d ≡ true = ap q (same_true d e s) ∙ k in rw (k, s, h) refl)
    (λ k. let h : q d ≡ false = ap q (same_true d e s) ∙ k in rw (k, s) (some-keep d q l ∙ rw h (and-false (some (same d) l)))))
    (λ s. by_test (q e) (λ k. rw (k, s) (some-keep d q l)) (λ k. rw (k, s) (some-keep d q l)))

-- ---- one range

-- d is none of the ids l
abbrev pub lacks : List (List ℕ) → List ℕ → Bool
lacks l d = not (some (same d) l)

-- the ids of the own items stand in the table
pub own_room : (T : Table) (s : Span) → Passed T → Inside T s → (s.lo * 32 + (s.hi - s.lo) * 32 ≤ length T.ids) × (length T.ids ≤ 32 * 1048576)
own_room T s ok h = let r = right_size T ok.0 in (omega arith, omega arith)

pub ids-inside : (p : Payload) (n count at : ℕ) → p ≡ Payload.Ids count at → writer.Inside p n → at + count * 32 ≤ n
ids-inside p n count at e h = rw e at h

pub none_has : (d : List ℕ) (l : List (List ℕ)) → l ≡ [] → false ≡ some (same d) l
unfolding some
none_has d l e = rw e refl

module _ (is : List Item) (x y : B.Bound) (m : List ℕ) (p : Payload) where
  pub skip_adds : p ≡ Payload.Skip → unowned is x y (payload_of p m) ≡ []
  unfolding unowned
  skip_adds e = rw e refl

  pub fingerprint_adds : (at : ℕ) → p ≡ Payload.Fingerprint at → unowned is x y (payload_of p m) ≡ []
  unfolding unowned
  fingerprint_adds at e = rw e refl

  pub list_adds : (count at : ℕ) → p ≡ Payload.Ids count at → unowned is x y (payload_of p m) ≡ unowned is x y (ids (ids_in count (drop at m)))
  list_adds count at e = rw e refl

module _ (T : Table) (s : Span) (x : B.Bound) (own : within x (upper_of s) (items T) ≡ own_in T s) where
  pub unowned_is : (l : List (List ℕ)) → unowned (items T) x (upper_of s) (ids l) ≡ keep (lacks (ids_of (own_in T s))) l
  unfolding unowned
  unowned_is l = ap (λ (o : List Item). keep (lacks (ids_of o)) l) own

  -- a range adds an id that it lists and that no own item has
  pub ids-add : (d m : List ℕ) (p : Payload) (count at : ℕ) (a b : Bool) → Inside T s → p ≡ Payload.Ids count at
      → a ≡ some (same d) (ids_in count (rest at m)) → b ≡ some (same d) (ids_in (s.hi - s.lo) (rest (s.lo * 32) T.ids))
      → (a && not b) ≡ some (same d) (unowned (items T) x (upper_of s) (payload_of p m))
  ids-add d m p count at a b inside e listed owned =
      let l = ids_in count (drop at m) in
      let o = ids_of (own_in T s) in
      rw (e, unowned_is l, some-keep d (lacks o) l, listed, owned, ids-run T s.lo s.hi inside.1, rest_is (s.lo * 32) T.ids, rest_is at m) refl

-- the own ids of a span are the bytes of the table there
pub unowned-span : (T : Table) (s : Span) → s.hi ≤ length T.times → (x : B.Bound) → within x (upper_of s) (items T) ≡ own_in T s → (l : List (List ℕ))
    → unowned (items T) x (upper_of s) (ids l) ≡ others T.ids s l
unowned-span T s h x e l = unowned_is T s x e l ∙ ap (λ (o : List (List ℕ)). keep (lacks o) l) (ids-run T s.lo s.hi h)

-- ---- the ranges from a walk on

-- the ids that the range of a step adds
abbrev pub range_adds : Table → List ℕ → Walk → Step → List (List ℕ)
range_adds T m w s = unowned (items T) (lower_at w.cursor) (upper_of s.span) (payload_of s.payload m)

module _ (T : Table) (m : List ℕ) (w : Walk) where
  pub added_next : (s : Step) → Stepped T m w s → added_from T m w ≡ range_adds T m w s ++ added_from T m s.next
  unfolding added_from each_range flatten
  added_next s h = rw (h.first, h.upper) refl

  pub added_ends : length m ≤ w.cursor.at → added_from T m w ≡ []
  unfolding added_from each_range flatten
  added_ends h = rw (reading-ends m w.cursor h) refl

  -- one range, then those behind it
  pub next-has : (d : List ℕ) (s : Step) (r a : Bool) → Stepped T m w s
      → r ≡ some (same d) (range_adds T m w s) → r ≡ a → some (same d) (added_from T m w) ≡ (a || some (same d) (added_from T m s.next))
  next-has d s r a h e f =
      ap (some (same d)) (added_next s h)
      ∙ some-append (same d) (range_adds T m w s) (added_from T m s.next)
      ∙ ap (λ (b : Bool). b || some (same d) (added_from T m s.next)) (sym e ∙ f)

-- the ids that ranges add are no more than the bytes of the ranges
few-listed : (is : List Item) (x y : B.Bound) (p : M.Payload) → LawfulPayload p → length (unowned is x y p) ≤ length (spell_payload p)
unfolding unowned spell_payload
few-listed is x y skip h = omega arith
few-listed is x y (fingerprint f) h = omega arith
few-listed is x y (ids l) h =
    let less = keep-length (lacks (ids_of (within x y is))) l in
    let bytes = flatten_length l h.1 in
    omega (arith, length-append (spell_varint 2) (spell_varint (length l) ++ flatten l), length-append (spell_varint (length l)) (flatten l))

few : (is : List Item) (x : B.Bound) (rs : List Range) → Rising x rs → length (flatten (each_range (unowned is) x rs)) ≤ length (spell_ranges x rs)
unfolding flatten each_range spell_ranges spell_range
few is x [] h = omega arith
few is x (range y p ∷ rs) h =
    let here = few-listed is x y p h.2 in
    let behind = few is y rs h.3 in
    omega (
      arith,
      length-append (unowned is x y p) (flatten (each_range (unowned is) y rs)),
      length-append (B.spell_bound x y ++ spell_payload p) (spell_ranges y rs),
      length-append (B.spell_bound x y) (spell_payload p),
    )

module _ (T : Table) (m : List ℕ) (w : Walk) (bytes : Bytes m) (walking : Walking T m w) where
  pub added_sized : All (Sized 32) (added_from T m w)
  unfolding added_from
  added_sized = unowned-sized (items T) (lower_at w.cursor) (ranges_at m w.cursor) (ranges_rise m w.cursor bytes walking.reads)

  pub added_few : length (added_from T m w) ≤ length m
  unfolding added_from reading_at
  added_few =
      let r = ranges-back (length m) (lower_at w.cursor) (drop w.cursor.at m) (ranges_at m w.cursor) [] (bytes_take w.cursor.at m bytes).1 walking.reads in
      omega (arith, few (items T) (lower_at w.cursor) (ranges_at m w.cursor) r.0, ap length r.1, length-drop w.cursor.at m)

-- the needed list with all that a reply adds
pub needed_is : (T : Table) (m : List ℕ) (ds : List (List ℕ)) → needed_after (items T) (ranges_at m starts.cursor) ds ≡ foldr insert ds (added_from T m starts)
unfolding needed_after added_from
needed_is T m ds = rw lower-starts refl

-- ---- a list of ids

-- the ids of the list at place `at`, from the i-th on
abbrev pub list_from : List ℕ → ℕ → ℕ → ℕ → List (List ℕ)
list_from m count at i = ids_in (count - i) (drop (at + i * 32) m)

module _ (m : List ℕ) (count at : ℕ) where
  pub list-whole : ids_in count (drop at m) ≡ list_from m count at 0
  list-whole =
      let e : count - 0 ≡ count = omega arith in
      let f : at + 0 * 32 ≡ at = omega arith in
      rw (e, f) refl

  pub list-none : (i : ℕ) → count ≤ i → list_from m count at i ≡ []
  unfolding ids_in
  list-none i h = let e : count - i ≡ 0 = omega arith in rw e refl

  -- the ids behind the i-th, as the code takes them out
  pub list_left : (i : ℕ) → ids_in (count - i - 1) (drop (at + i * 32 + 32) m) ≡ list_from m count at (i + 1)
  list_left i =
      let e : count - i - 1 ≡ count - (i + 1) = omega arith in
      let f : at + i * 32 + 32 ≡ at + (i + 1) * 32 = omega arith in
      rw (e, f) refl

  pub list-next : (i : ℕ) → i < count → list_from m count at i ≡ take 32 (drop (at + i * 32) m) ∷ list_from m count at (i + 1)
  unfolding ids_in
  list-next i h = let e : count - i ≡ suc (count - i - 1) = omega arith in rw (e, drop-drop 32 (at + i * 32) m, list_left i) refl
