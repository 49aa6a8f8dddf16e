-- Where a reply, or a later query, stops: the ranges of the other's message, one after another.
use Prim.Native.Nat.{ℕ, zero, suc, ◌-◌, ◌*◌, ◌^◌, ◌≤◌, ◌<◌}
use mathlib.Core.Path.{◌≡◌, refl, sym, ap, ◌∙◌}
use mathlib.Core.Bool.{Bool, true, false, cond}
use mathlib.Core.List.{List, [], ◌∷◌, ◌++◌, append-nil, append_assoc}
use native.Mathlib.Omega.{arith}
use lib.Dec.{leb}
use lib.ListN.{length, take, drop, replicate, length-append, length-replicate}
use borrow.Author.Tests.{leb-true, leb-false}
use Rattle.std.specs.Prelude.{Result}
use Rattle.message.specs.declared.Refusal.{Refusal}
use Rattle.message.specs.Bound.{Bound, infinity, finite, big_endian, id_space, time, key, start}
use Rattle.message.specs.Message.{Payload, skip, fingerprint, ids, Range, range, upper}
use Rattle.message.specs.Meaning.{is_skip, tidy, write_message}
use Rattle.message.specs.WellFormed.{All, Bytes, Rising, WellFormed}
use Rattle.message.specs.Code.{payload_of}
use Rattle.message.specs.declared.Payload as P
use Rattle.message.proofs.Exact.{by_test, differ}
use Rattle.message.proofs.Meaning.{tidy-rises}
use Rattle.message.specs.Private.{waiting, last_upper}
use Rattle.message.proofs.Tidying.{tidy-skip, waiting-more, write_skip}
use Rattle.theory.specs.Rounds.{Cut}
use Rattle.theory.specs.End.{Fit}
use Rattle.theory.specs.Cutting.{split}
use Rattle.theory.specs.Standard.{sizes}
use Rattle.theory.proofs.Standard.{sizes_fit}
use Rattle.theory.proofs.Tests.{clash}
use Rattle.writer.specs.Writing.{taken, refused, verdict_of, started, lower_of}
use Rattle.writer.specs.Stream.{State, meant, before, hand_over}
use Rattle.writer.specs.Handover.{after, HandsOver}
use Rattle.writer.specs.declared.write.Writer.{Writer}
use Rattle.writer.specs.Handover.{Follows}
use Rattle.table.specs.Table.{Item, Table, items, within, ids_of}
use Rattle.table.specs.Private.{Passed, place_of}
use Rattle.table.proofs.Places.{place-ends}
use Rattle.cutting.specs.Cutting.{fingerprint_of, outside_limits, fingerprint_ranges, cut}
use Rattle.cutting.specs.Private.{own_in, upper_of}
use Rattle.cutting.proofs.Limits.{within-limits}
use Rattle.ends.specs.Lists.{same}
use Rattle.ends.specs.Responder.{treat}
use Rattle.reader.specs.Private.{lower_at, ranges_at}
use Rattle.walk.specs.Walking.{starts, Walking, Stepped}
use Rattle.walk.specs.declared.Walk.{Walk}
use Rattle.walk.specs.declared.Step.{Step}
use Rattle.walk.proofs.Steps.{lower-starts}
use Rattle.exchange.specs.Given as given
use Rattle.exchange.proofs.Treating.{becomes, becomes_step, becomes_end, treat-skip, treat-equal, treat-other, treat-ids}
use Rattle.limit.specs.Limit.{run_end}
use Rattle.limit.proofs.Reading.{end-append, followed}
use Rattle.limit.proofs.Stopping.{tidy-behind}
use Rattle.shorten.specs.declared.Stop.{Stop}
use Rattle.shorten.specs.Private.{Stopped, Stands}
use Rattle.shorten.proofs.Fitting.{run_length}
use Rattle.shorten.proofs.Finishing.{end-run}
use Rattle.sending.specs.Private.{lists_own}
use Rattle.sending.proofs.Halts.{Behind, Halt, rising-behind, rising-front, all_append, all_taken, halts, at_start}
use Rattle.sending.proofs.Opening.{none_first, Print, parts-print, print-no-skip, end_none, first-place}

-- ---- what one range becomes: a skip, all own ids there, or fingerprints up to the range's own bound

pub data Made (y : Bound) (own : List Item) (lists : Bool) (made : List Range) : Type 0 where
  one-skip : made ≡ range y skip ∷ [] → Made y own lists made
  one_list : lists ≡ true → made ≡ range y (ids (ids_of own)) ∷ [] → Made y own lists made
  prints : lists ≡ false → All Print made → 0 < length made → ((x : Bound) → run_end x made ≡ y) → Made y own lists made

parts-end : (ps : List (List Item)) (y : Bound) → 0 < length ps → (0 < length (fingerprint_ranges ps y)) × ((x : Bound) → run_end x (fingerprint_ranges ps y) ≡ y)
unfolding fingerprint_ranges run_end
parts-end [] y h = absurd (omega arith)
parts-end (p ∷ []) y h = (omega arith, λ x. refl)
parts-end (p ∷ q ∷ ps) y h = (omega arith, λ x. (parts-end (q ∷ ps) y (omega arith)).1 _)

some_parts : (ns : List ℕ) (own : List Item) (b n : ℕ) → Fit b n ns n → 0 < n → 0 < length (split ns own)
unfolding split
some_parts [] own b n f h = absurd (omega arith)
some_parts (k ∷ ns) own b n f h = omega arith

module _ (listing : Bool) (c : Cut) (o : outside_limits c ≡ false) (is : List Item) (x y : Bound) (own : List Item) (e : within x y is ≡ own) where
  cut_short : leb (length own) c.limit ≡ true → cut c own y ≡ range y (ids (ids_of own)) ∷ []
  unfolding cut
  cut_short t = rw t refl

  cut-long : leb (length own) c.limit ≡ false → cut c own y ≡ fingerprint_ranges (split (sizes c.odd c.parts (length own)) own) y
  unfolding cut
  cut-long t = rw t refl

  other : (f : List ℕ) → same f (fingerprint_of own) ≡ false → Made y own (leb (length own) c.limit) (treat (given.given listing) c is x y (fingerprint f))
  other f h =
      let is_cut = treat-other (given.given listing) c is x y own e f h in
      by_test (leb (length own) c.limit)
      (λ t. one_list t (is_cut ∙ cut_short t))
      (λ t.
      let l = within-limits c o in
      let many = leb-false (length own) c.limit t in
      let ps = split (sizes c.odd c.parts (length own)) own in
      let some = parts-end ps y (some_parts (sizes c.odd c.parts (length own)) own c.parts (length own) (sizes_fit c.odd c.parts (length own) (omega arith) (omega arith)) (omega arith)) in
      rw (is_cut, cut-long t) (prints t (parts-print ps y) some.0 some.1))

  made_is : (p : P.Payload) (m : List ℕ) → Made y own (lists_own listing c.limit (length own) p) (treat (given.given listing) c is x y (payload_of p m))
  made_is P.Payload.Skip m = one-skip (treat-skip (given.given listing) c is x y own e)
  made_is (P.Payload.Fingerprint at) m =
      by_test (same (payload m) (fingerprint_of own))
      (λ t. one-skip (treat-equal (given.given listing) c is x y own e (payload m) t))
      (λ t. other (payload m) t)
    where
      payload : List ℕ → List ℕ
      payload m = take 16 (drop at m)
  made_is (P.Payload.Ids n at) m = by listing refl
    where
      by : (b : Bool) → listing ≡ b → Made y own listing (treat (given.given listing) c is x y (payload_of (P.Payload.Ids n at) m))
      by true t = rw t (one_list refl (treat-ids (given.given true) c is x y own e _))
      by false t = rw t (one-skip (treat-ids (given.given false) c is x y own e _))

  pub made_counted : (p : P.Payload) (m : List ℕ) (k : ℕ) → k ≡ length own → Made y own (lists_own listing c.limit k p) (treat (given.given listing) c is x y (payload_of p m))
  made_counted p m k q = rw q (made_is p m)

-- ---- skips that wait

abbrev Other : Range → Type 0
Other r = is_skip r ≡ false

waits_none : (a b : List Range) → 0 < length b → All Other b → waiting (a ++ b) ≡ []
waits_none a [] l h = absurd (omega arith)
waits_none a (x ∷ []) l h = waiting-more a x ∙ rw h.0 refl
waits_none a (x ∷ y ∷ b) l h = rw (append_assoc a (x ∷ []) (y ∷ b)) at (waits_none (a ++ (x ∷ [])) (y ∷ b) (omega arith) h.1)

others : (rs : List Range) → All Print rs → All Other rs
others [] h = tt
others (r ∷ rs) h = (print-no-skip r h.0, others rs h.1)

not-waiting : {C : Type 0} (d : List Range) (w : Writer) → Follows d w → waiting d ≡ [] → w.pending ≡ true → C
not-waiting d w f e t = let z : ◌≡◌ {A = List Range} [] (_ ∷ []) = sym e ∙ (rw t at f.wait) in differ (cc)

is_skip_lem : (y : Bound) → is_skip (range y skip) ≡ true
unfolding is_skip
is_skip_lem y = refl

list-no-skip : (y : Bound) (l : List (List ℕ)) → is_skip (range y (ids l)) ≡ false
unfolding is_skip
list-no-skip y l = refl

end-one : (x y : Bound) (p : Payload) → run_end x (range y p ∷ []) ≡ y
unfolding run_end
end-one x y p = refl

last_end : (x : Bound) (rs : List Range) → last_upper x rs ≡ run_end x rs
unfolding last_upper run_end
last_end x [] = refl
last_end x (r ∷ rs) = last_end (upper r) rs

tidy-none : tidy [] ≡ []
unfolding tidy
tidy-none = refl

-- ---- a bound below infinity

times_more : (a b s : ℕ) → a ≤ b → a * s ≤ b * s
times_more zero b s h = omega arith
times_more (suc a) zero s h = absurd (omega arith)
times_more (suc a) (suc b) s h = omega (arith, times_more a b s (omega arith))

time-below : (b : Bound) → key b < key infinity → time b ≤ 2 ^ 64 - 2
unfolding key
time-below infinity h = absurd (omega arith)
time-below (finite t p) h =
    by_test (leb t (2 ^ 64 - 2))
    (λ e. leb-true t (2 ^ 64 - 2) e)
    (λ e.
    let l = leb-false t (2 ^ 64 - 2) e in
    let m = times_more (2 ^ 64 - 1) t id_space (omega arith) in
    let z : big_endian 32 [] ≡ 0 = none in
    absurd (omega arith))
  where
    none : big_endian 32 [] ≡ 0
    none = unfold big_endian in refl

-- ---- the ranges of a message

-- what the ranges up to the walk become was taken; `kept` is the place of the last bound that is written
pub record Going (listing : Bool) (c : Cut) (T : Table) (m : List ℕ) (n kept : ℕ) (w : Walk) (wr : Writer) : Type 0 where
  pub sofar : List Range
  pub splits : sofar ++ becomes (treat (given.given listing) c (items T)) m w ≡ given.made listing c (items T) (ranges_at m starts.cursor)
  pub stands : Behind n sofar wr
  pub walking : Walking T m w
  pub ends : run_end start sofar ≡ lower_at w.cursor
  pub place : kept ≡ place_of (run_end start (tidy sofar)) (items T)

module _ (listing : Bool) (c : Cut) (T : Table) (m : List ℕ) (by : Bytes T.ids) (ok : Passed T) (o : outside_limits c ≡ false) (n : ℕ) where
  abbrev f : Bound → Bound → Payload → List Range
  f = treat (given.given listing) c (items T)

  abbrev whole : List Range
  whole = given.made listing c (items T) (ranges_at m starts.cursor)

  abbrev zeros : List ℕ
  zeros = replicate n 0

  pub going_start : 1 ≤ n → Walking T m starts → Going listing c T m n 0 starts started
  going_start l w = record {
    sofar = [];
    splits = rw lower-starts refl;
    stands = at_start n l;
    walking = w;
    ends = end_none ∙ sym lower-starts;
    place = rw (tidy-none, end_none) (sym (first-place T by ok));
  }

  module _ (kept : ℕ) (w : Walk) (wr : Writer) (g : Going listing c T m n kept w wr) where
    -- the end is not reached
    pub going_end : length m ≤ w.cursor.at → n < length (write_message whole) → ⊥
    going_end l h =
        let all : g.sofar ≡ whole = sym (append-nil g.sofar) ∙ ap (λ (r : List Range). g.sofar ++ r) (sym (becomes_end f m w l)) ∙ g.splits in
        let s : length (write_message whole) ≤ n = rw all at g.stands.small in
        omega arith

    module _ (st : Step) (s : Stepped T m w st) (r : Result (Unit {0}) Refusal) (wr' : Writer)
        (one : HandsOver false (f (lower_at w.cursor) (upper_of st.span) (payload_of st.payload m)) (before wr zeros) (after r wr' zeros)) where
      abbrev made : List Range
      made = f (lower_at w.cursor) (upper_of st.span) (payload_of st.payload m)

      abbrev y : Bound
      y = upper_of st.span

      abbrev lists : Bool
      lists = lists_own listing c.limit (st.span.hi - st.span.lo) st.payload

      kind : Made y (own_in T st.span) lists made
      kind =
          made_counted listing c o (items T) (lower_at w.cursor) y (own_in T st.span) s.own st.payload m (st.span.hi - st.span.lo)
          (sym (run_length T st.span s.span.0 s.span.1))

      joined : (g.sofar ++ made) ++ becomes f m st.next ≡ whole
      joined = append_assoc g.sofar made (becomes f m st.next) ∙ ap (λ (l : List Range). g.sofar ++ l) (sym (becomes_step f m T w st s)) ∙ g.splits

      made-end : Made y (own_in T st.span) lists made → (x : Bound) → run_end x made ≡ y
      made-end (one-skip e) x = rw e (end-one x y skip)
      made-end (one_list l e) x = rw e (end-one x y _)
      made-end (prints l a h e) x = e x

      sofar_end : run_end start (g.sofar ++ made) ≡ y
      sofar_end = end-append start g.sofar made ∙ made-end kind (run_end start g.sofar)

      -- ---- all of it was taken

      module _ (v : verdict_of r ≡ taken) where
        all : meant one.handed ≡ made
        all = sym (append-nil (meant one.handed)) ∙ ap (λ (l : List Range). meant one.handed ++ l) (sym (one.whole v)) ∙ one.means

        there : Behind n (g.sofar ++ made) wr'
        there =
            let led = ap (λ (t : State). t.verdict) (sym one.leads) ∙ v in
            let b = all_taken false n g.sofar wr one.handed zeros (length-replicate {A = ℕ} n 0) g.stands one.fit led in
            let same : (hand_over false (before wr zeros) one.handed).writer ≡ wr' = ap (λ (t : State). t.writer) (sym one.leads) in
            rw (all, same) at b.0

        written-place : wr'.pending ≡ false → st.span.hi ≡ place_of (run_end start (tidy (g.sofar ++ made))) (items T)
        written-place e =
            let d = g.sofar ++ made in
            let none : waiting d ≡ [] = rw e at there.follows.wait in
            let last : run_end start (tidy d) ≡ y = ap (run_end start) (sym (append-nil (tidy d)) ∙ ap (λ (l : List Range). tidy d ++ l) (sym none)) ∙ end-run d ∙ sofar_end in
            s.to ∙ ap (λ (b : Bound). place_of b (items T)) (sym last)

        waits : {C : Type 0} → wr'.pending ≡ true → waiting (g.sofar ++ made) ≡ [] → C
        waits e none = not-waiting (g.sofar ++ made) wr' there.follows none e

        waiting-place : wr'.pending ≡ true → Made y (own_in T st.span) lists made → kept ≡ place_of (run_end start (tidy (g.sofar ++ made))) (items T)
        waiting-place e (one-skip k) = g.place ∙ ap (λ (l : List Range). place_of (run_end start l) (items T)) (sym (tidy-skip g.sofar (range y skip) (is_skip_lem y)) ∙ ap (λ (l : List Range). tidy (g.sofar ++ l)) (sym k))
        waiting-place e (one_list l k) = waits e (rw k (waits_none g.sofar (range y (ids (ids_of (own_in T st.span))) ∷ []) (omega arith) (list-no-skip y _, tt)))
        waiting-place e (prints l a h k) = waits e (waits_none g.sofar made h (others made a))

        pub going_next : (k : ℕ) → k ≡ cond wr'.pending kept st.span.hi → Going listing c T m n k st.next wr'
        going_next k p = record {
          sofar = g.sofar ++ made;
          splits = joined;
          stands = there;
          walking = s.next;
          ends = sofar_end ∙ sym s.upper;
          place =
              by_test wr'.pending
              (λ e. p ∙ rw e refl ∙ waiting-place e kind)
              (λ e. p ∙ rw e refl ∙ written-place e);
        }

      -- ---- it stops within it

      module _ (well : WellFormed whole) (k : ℕ) (v : verdict_of r ≡ refused k) where
        rises : Rising (lower_of wr) made
        rises =
            let all : Rising start (g.sofar ++ (made ++ becomes f m st.next)) = rw (← append_assoc g.sofar made (becomes f m st.next), joined) well in
            rw (← g.stands.lower) (rising-front (run_end start g.sofar) made (becomes f m st.next) (rising-behind start g.sofar (made ++ becomes f m st.next) all))

        h : Halt n g.sofar made wr'
        h = halts false n g.sofar wr zeros (length-replicate {A = ℕ} n 0) g.stands made (after r wr' zeros) one rises k v

        abbrev done : List Range
        done = g.sofar ++ h.done

        splits : done ++ (h.next ∷ (h.rest ++ becomes f m st.next)) ≡ whole
        splits =
            append_assoc g.sofar h.done (h.next ∷ (h.rest ++ becomes f m st.next))
            ∙ ap (λ (l : List Range). g.sofar ++ l) (sym (append_assoc h.done (h.next ∷ h.rest) (becomes f m st.next)) ∙ ap (λ (l : List Range). l ++ becomes f m st.next) h.splits)
            ∙ sym (append_assoc g.sofar made (becomes f m st.next))
            ∙ joined

        -- where it stops: at the list, or at a fingerprint behind others
        data Where : Type 0 where
          at_list : lists ≡ true → h.done ≡ [] → h.next ≡ range y (ids (ids_of (own_in T st.span))) → Where
          at_print : lists ≡ false → All Print h.done → Print h.next → Where

        where_is : Made y (own_in T st.span) lists made → Where
        where_is (one-skip e) =
            let z = none_first h.done h.next h.rest (range y skip) (h.splits ∙ e) in
            let t : is_skip h.next ≡ true = rw z.1 (is_skip_lem y) in
            let same = write_skip done h.next t in
            let x = h.over in
            let l = h.stands.small in
            absurd (omega (arith, ap length same))
        where_is (one_list l e) = let z = none_first h.done h.next h.rest _ (h.splits ∙ e) in at_list l z.0 z.1
        where_is (prints l a s e) = let z = all_append Print h.done (h.next ∷ h.rest) (rw h.splits a) in at_print l z.0 z.1.0

        no-skip : Where → is_skip h.next ≡ false
        no-skip (at_list l d e) = rw e (list-no-skip y _)
        no-skip (at_print l d e) = print-no-skip h.next e

        waits_kept : Where → wr'.pending ≡ true → kept ≡ place_of (run_end start (tidy done)) (items T)
        waits_kept (at_list l d e) t = g.place ∙ ap (λ (l : List Range). place_of (run_end start (tidy l)) (items T)) (sym (append-nil g.sofar) ∙ ap (λ (l : List Range). g.sofar ++ l) (sym d))
        waits_kept (at_print l d e) t = by-done h.done refl
          where
            by-done : (a : List Range) → h.done ≡ a → kept ≡ place_of (run_end start (tidy done)) (items T)
            by-done [] q = g.place ∙ ap (λ (l : List Range). place_of (run_end start (tidy l)) (items T)) (sym (append-nil g.sofar) ∙ ap (λ (l : List Range). g.sofar ++ l) (sym q))
            by-done (x ∷ a) q =
                let some : 0 < length h.done = rw q (omega arith) in
                not-waiting done wr' h.stands.follows (waits_none g.sofar h.done some (others h.done d)) t

        written_below : key (run_end start (tidy done)) < key infinity
        written_below =
            let more = tidy (h.rest ++ becomes f m st.next) in
            let t : Rising start (tidy done ++ (waiting done ++ (h.next ∷ more))) =
            rw (← tidy-behind done h.next (h.rest ++ becomes f m st.next) (no-skip (where_is kind)), splits) (tidy-rises start whole well) in
            followed (run_end start (tidy done)) (waiting done ++ (h.next ∷ more)) (omega (arith, length-append (waiting done) (h.next ∷ more))) (rising-behind start (tidy done) (waiting done ++ (h.next ∷ more)) t)

        timed : wr'.time ≤ 2 ^ 64 - 2
        timed = rw (h.stands.follows.last, last_end start (tidy done)) (time-below (run_end start (tidy done)) written_below)

        below : key (lower_of wr') < key infinity
        below =
            let rest = h.rest ++ becomes f m st.next in
            rw (← h.stands.lower) (followed (run_end start done) (h.next ∷ rest) (omega arith) (rising-behind start done (h.next ∷ rest) (rw splits well)))

        own-there : h.done ≡ [] → within (lower_of wr') y (items T) ≡ own_in T st.span
        own-there d =
            let same : lower_of wr' ≡ lower_at w.cursor = sym h.stands.lower ∙ ap (run_end start) (ap (λ (l : List Range). g.sofar ++ l) d ∙ append-nil g.sofar) ∙ g.ends in
            rw same s.own

        listed : Where → lists ≡ true → (h.next ≡ range y (ids (ids_of (own_in T st.span)))) × (within (lower_of wr') y (items T) ≡ own_in T st.span)
        listed (at_list l d e) t = (e, own-there d)
        listed (at_print l d e) t = clash t l

        unlisted : Where → lists ≡ false → Print h.next
        unlisted (at_list l d e) t = clash l t
        unlisted (at_print l d e) t = e

        abbrev stop : Bool → Stop
        stop b = record { writer = wr'; kept = kept; span = st.span; listed = b }

        pub reply_stops : (b : Bool) → b ≡ lists → Stopped n T whole (stop b) × Stands T (stop b)
        reply_stops b q =
            let place : kept ≤ length T.times = rw g.place (place-ends (run_end start (tidy g.sofar)) T) in (
              record {
                done = done;
                next = h.next;
                rest = h.rest ++ becomes f m st.next;
                splits = splits;
                follows = h.stands.follows;
                lower = h.stands.lower;
                lawful = h.stands.lawful;
                small = h.stands.small;
                over = h.over;
                kept = waits_kept (where_is kind);
                timed = λ t. timed;
                room = place;
                span = s.span;
                listed = λ t. listed (where_is kind) (sym q ∙ t);
                unlisted = λ t. unlisted (where_is kind) (sym q ∙ t);
              },
              record {
                lawful = h.stands.lawful;
                below = below;
                span = s.span;
                place = place;
                own = λ t. (listed (where_is kind) (sym q ∙ t)).1;
              },
            )
