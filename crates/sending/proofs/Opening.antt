-- Where the first query stops.
use Prim.Native.Nat.{ℕ}
use mathlib.Core.Path.{◌≡◌, refl, sym, ◌∙◌}
use mathlib.Core.Bool.{true, false}
use mathlib.Core.List.{List, [], ◌∷◌, ◌++◌}
use native.Mathlib.Omega.{arith}
use lib.Dec.{leb}
use lib.ListN.{length}
use borrow.Author.Tests.{leb-true, leb-false}
use Rattle.message.specs.Bound.{Bound, infinity, start}
use Rattle.message.specs.Message.{fingerprint, ids, Range, range}
use Rattle.message.specs.Meaning.{is_skip}
use Rattle.message.specs.WellFormed.{All, Bytes, WellFormed}
use Rattle.message.proofs.Exact.{by_test, differ}
use Rattle.message.specs.Private.{waiting}
use Rattle.theory.specs.Rounds.{Cut}
use Rattle.theory.specs.Cutting.{split}
use Rattle.theory.specs.Standard.{sizes}
use Rattle.writer.specs.declared.write.Writer.{Writer}
use Rattle.table.specs.Table.{Item, Table, items, within, ids_of}
use Rattle.table.specs.Private.{Passed, place_of}
use Rattle.table.proofs.Items.{items-length}
use Rattle.table.proofs.Places.{within_is, not-above-item, place-ends}
use Rattle.cutting.specs.Cutting.{fingerprint_ranges, cut}
use Rattle.cutting.proofs.Projection.{key-start}
use Rattle.cutting.specs.Private.{own_in}
use Rattle.ends.specs.Opener.{first_query}
use Rattle.limit.specs.Limit.{run_end}
use Rattle.limit.proofs.Reading.{followed}
use Rattle.shorten.specs.declared.Stop.{Stop}
use Rattle.shorten.specs.Private.{Stopped, Stands}
use Rattle.shorten.proofs.Finishing.{all_below}
use Rattle.sending.specs.Private.{whole}
use Rattle.sending.proofs.Sending.{whole_run, whole-inside}
use Rattle.sending.proofs.Halts.{Halt, rising-behind, all_append}

-- ---- lists

pub none_first : (a : List Range) (x : Range) (b : List Range) (r : Range) → a ++ (x ∷ b) ≡ r ∷ [] → (a ≡ []) × (x ≡ r)
none_first [] x b r e = (refl, cc)
none_first (s ∷ []) x b r e = differ (let z : ◌≡◌ {A = List Range} (x ∷ b) [] = cc in cc)
none_first (s ∷ t ∷ a) x b r e = differ (let z : ◌≡◌ {A = List Range} (t ∷ (a ++ (x ∷ b))) [] = cc in cc)

-- fingerprints only
abbrev pub Print : Range → Type 0
Print r = (y : Bound) × (f : List ℕ) × (r ≡ range y (fingerprint f))

pub parts-print : (ps : List (List Item)) (y : Bound) → All Print (fingerprint_ranges ps y)
unfolding fingerprint_ranges
parts-print [] y = tt
parts-print (p ∷ []) y = ((y, _, refl), tt)
parts-print (p ∷ q ∷ ps) y = ((_, _, refl), parts-print (q ∷ ps) y)

pub print-no-skip : (r : Range) → Print r → is_skip r ≡ false
unfolding is_skip
print-no-skip r p = rw p.2 refl

pub none_waits : (rs : List Range) → All Print rs → waiting rs ≡ []
unfolding waiting
none_waits [] h = refl
none_waits (r ∷ []) h = rw (print-no-skip r h.0) refl
none_waits (r ∷ s ∷ rs) h = none_waits (s ∷ rs) h.1

waits_none : waiting [] ≡ []
unfolding waiting
waits_none = refl

pub end_none : run_end start [] ≡ start
unfolding run_end
end_none = refl

-- ---- the whole table

module _ (T : Table) (by : Bytes T.ids) (ok : Passed T) where
  pub first-place : place_of start (items T) ≡ 0
  first-place =
      by_test (leb (length T.times) 0)
      (λ t. let l = leb-true (length T.times) 0 t in omega (arith, place-ends start T))
      (λ t. let l = leb-false (length T.times) 0 t in omega (arith, not-above-item T ok start 0 l (rw key-start (omega arith))))

  whole-own : within start infinity (items T) ≡ own_in T (whole (length T.times))
  whole-own = rw (within_is T ok start infinity, all_below T by ok, first-place) refl

  module _ (c : Cut) (size : ℕ) (w : Writer) (well : WellFormed (first_query c (items T))) (h : Halt size [] (first_query c (items T)) w) where
    abbrev stop : Stop
    stop = record { writer = w; kept = 0; span = whole (length T.times); listed = leb (length T.times) c.limit }

    one_list : leb (length T.times) c.limit ≡ true → first_query c (items T) ≡ range infinity (ids (ids_of (items T))) ∷ []
    unfolding first_query cut
    one_list e = rw (items-length T, e) refl

    prints : leb (length T.times) c.limit ≡ false → All Print (first_query c (items T))
    unfolding first_query cut
    prints e = rw (items-length T, e) (parts-print (split (sizes c.odd c.parts (length T.times)) (items T)) infinity)

    at_once : leb (length T.times) c.limit ≡ true → (h.done ≡ []) × (h.next ≡ range infinity (ids (ids_of (items T))))
    at_once e = none_first h.done h.next h.rest (range infinity (ids (ids_of (items T)))) (h.splits ∙ one_list e)

    split-prints : leb (length T.times) c.limit ≡ false → All Print h.done × All Print (h.next ∷ h.rest)
    split-prints e = all_append Print h.done (h.next ∷ h.rest) (rw h.splits (prints e))

    no-wait : waiting h.done ≡ []
    no-wait = by_test (leb (length T.times) c.limit) (λ e. rw (at_once e).0 waits_none) (λ e. none_waits h.done (split-prints e).0)

    not_pending : {C : Type 0} → w.pending ≡ true → C
    not_pending e = let z : ◌≡◌ {A = List Range} [] (_ ∷ []) = sym no-wait ∙ (rw e at h.stands.follows.wait) in differ (cc)

    pub opening_stops : Stopped size T (first_query c (items T)) stop
    opening_stops = record {
      done = h.done;
      next = h.next;
      rest = h.rest;
      splits = h.splits;
      follows = h.stands.follows;
      lower = h.stands.lower;
      lawful = h.stands.lawful;
      small = h.stands.small;
      over = h.over;
      kept = not_pending;
      timed = not_pending;
      room = omega arith;
      span = whole-inside T (length T.times) refl;
      listed = λ e. (rw (whole_run T (length T.times) refl) (at_once e).1, rw (← h.stands.lower, (at_once e).0, end_none) whole-own);
      unlisted = λ e. (split-prints e).1.0;
    }

    pub opening-stands : Stands T stop
    opening-stands = record {
      lawful = h.stands.lawful;
      below = rw (← h.stands.lower) (followed (run_end start h.done) (h.next ∷ h.rest) (omega arith) (rising-behind start h.done (h.next ∷ h.rest) (rw h.splits well)));
      span = whole-inside T (length T.times) refl;
      place = omega arith;
      own = λ e. rw (← h.stands.lower, (at_once e).0, end_none) whole-own;
    }
