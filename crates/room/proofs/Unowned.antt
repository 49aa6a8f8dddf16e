-- The listed ids that no own item has, counted, and whether there is room for what a reply adds.
use Prim.Native.Nat.{ℕ, zero, suc, ◌+◌, ◌-◌, ◌*◌, ◌≤◌}
use mathlib.Core.Path.{◌≡◌, refl, ap, ◌∙◌}
use mathlib.Core.Bool.{false, cond}
use mathlib.Core.List.{List, [], ◌∷◌, foldr}
use native.Mathlib.Omega.{arith}
use Rattle.std.specs.Prelude.{count_by}
use Rattle.std.proofs.lemmas.List.Sums.{sum_by-cons}
use lib.Dec.{eqb, ltb}
use lib.ListN.{length, take, drop, length-append}
use borrow.Author.Tests.{le-ltb}
use Rattle.message.specs.Code.{ids_in}
use Rattle.message.specs.declared.Payload.{Payload}
use Rattle.message.proofs.Exact.{by_test}
use Rattle.message.proofs.Forms.{ids-count}
use Rattle.reader.specs.Private.{ranges_at}
use Rattle.table.specs.Table.{Table, items}
use Rattle.cutting.proofs.Projection.{keep-length}
use Rattle.ends.specs.Opener.{insert, needed_after}
use Rattle.walk.specs.Walking.{starts, Stepped}
use Rattle.walk.specs.declared.Walk.{Walk}
use Rattle.walk.specs.declared.Step.{Step}
use Rattle.walk.specs.Adding.{added_from, others}
use Rattle.walk.proofs.Adding.{lacks, list_from, needed_is}
use Rattle.needed.specs.Batches.{not_found}
use Rattle.needed.proofs.Inserting.{added_grows}
use Rattle.needed.proofs.Batching.{unowned_in, LookedUp, others-next, others-none, ids-add-next}

-- ---- the ids of a block

pub not_found_count : (n : ℕ) (found l : List ℕ) → n ≤ length found → count_by (λ x. eqb x 0) (take n found) ≡ length (not_found found n l)
unfolding not_found
not_found_count zero found l h = refl
not_found_count (suc n) [] l h = absurd (omega arith)
not_found_count (suc n) (x ∷ found) l h =
    let later = not_found_count n found (drop 32 l) (omega arith) in
    let f : ℕ → ℕ = λ y. cond (eqb y 0) 1 0 in
    let one : count_by (λ y. eqb y 0) (x ∷ take n found) ≡ f x + length (not_found found n (drop 32 l)) = sum_by-cons f x (take n found) ∙ ap (λ (k : ℕ). f x + k) later in
    one ∙ by_test (eqb x 0) (λ e. rw e (omega arith)) (λ e. rw e (omega arith))

-- ---- the ids of a list, block by block

module _ (own : List ℕ) (start owned : ℕ) (m : List ℕ) (count at : ℕ) where
  -- `sum` ids are unowned, and those from the i-th on are still to be counted
  abbrev pub Summing : ℕ → ℕ → Type 0
  Summing sum i = length (unowned_in own start owned (ids_in count (drop at m))) ≡ sum + length (unowned_in own start owned (list_from m count at i))

  pub summing_block : (found : List ℕ) (sum i n more : ℕ) → i + n ≤ count → LookedUp own start owned m (at + i * 32) n found
      → ((l : List ℕ) → more ≡ length (not_found found n l)) → Summing sum i → Summing (sum + more) (i + n)
  summing_block found sum i n more h f e s =
      omega (
        arith,
        s,
        ap length (others-next own start owned m count at found i n h f),
        length-append (not_found found n (drop (at + i * 32) m)) (unowned_in own start owned (list_from m count at (i + n))),
        e (drop (at + i * 32) m),
      )

  pub summing_ends : (sum i : ℕ) → count ≤ i → Summing sum i → sum ≡ length (unowned_in own start owned (ids_in count (drop at m)))
  summing_ends sum i h s = omega (arith, s, ap length (others-none own start owned m count at i h))

-- ---- the lists of a reply

-- a list adds the ids of it that no own item has
pub list_adds_unowned : (T : Table) (m : List ℕ) (w : Walk) (s : Step) → Stepped T m w s → (count at : ℕ) → s.payload ≡ Payload.Ids count at
    → length (added_from T m w) ≡ length (others T.ids s.span (ids_in count (drop at m))) + length (added_from T m s.next)
list_adds_unowned T m w s k count at e =
    ap length (ids-add-next T m w s k count at e) ∙ length-append (others T.ids s.span (ids_in count (drop at m))) (added_from T m s.next)

-- a list adds no more ids than it has
pub list_adds_few : (T : Table) (m : List ℕ) (w : Walk) (s : Step) → Stepped T m w s → (count at : ℕ) → s.payload ≡ Payload.Ids count at
    → length (added_from T m w) ≤ count + length (added_from T m s.next)
list_adds_few T m w s k count at e =
    let o = others T.ids s.span (ids_in count (drop at m)) in
    omega (
      arith,
      ap length (ids-add-next T m w s k count at e),
      length-append o (added_from T m s.next),
      keep-length (lacks (ids_in (s.span.hi - s.span.lo) (drop (s.span.lo * 32) T.ids))) (ids_in count (drop at m)),
      ids-count count (drop at m),
    )

-- 11 cannot be met where there is room for all that is added
pub room-enough : (T : Table) (m : List ℕ) (ds : List (List ℕ)) (size have : ℕ) → length ds ≡ size → size ≤ have → length (added_from T m starts) ≤ have - size
    → ltb have (length (needed_after (items T) (ranges_at m starts.cursor) ds)) ≡ false
room-enough T m ds size have e h f =
    rw (needed_is T m ds) (le-ltb have (length (foldr insert ds (added_from T m starts))) (omega (arith, e, h, f, (added_grows ds (added_from T m starts)).1)))
