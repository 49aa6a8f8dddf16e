-- The ranges of the reply that meet a range of the query, from a walk on.
use Prim.Native.Nat.{ℕ, ◌≤◌, ◌<◌}
use mathlib.Core.Path.{◌≡◌, refl, sym, ap, ◌∙◌}
use mathlib.Core.Bool.{Bool, true, false, cond}
use mathlib.Core.List.{List, [], ◌∷◌, ◌++◌, flatten}
use native.Mathlib.Omega.{arith}
use lib.Dec.{ltb}
use lib.ListN.{length}
use borrow.Author.Tests.{ltb-true, ltb-false, lt-ltb, le-ltb}
use Rattle.std.specs.Bool.{then_some}
use Rattle.std.proofs.Math.Bool.{and-true, and-false}
use Rattle.message.specs.Bound.{Bound, infinity, key, start}
use Rattle.message.specs.Message.{Payload, skip, Range, range}
use Rattle.message.specs.Code.{payload_of}
use Rattle.message.specs.WellFormed.{Bytes, Rising}
use Rattle.table.specs.Table.{Table}
use Rattle.cutting.specs.Private.{upper_of}
use Rattle.ends.specs.Calls.{each_range}
use Rattle.reader.specs.Private.{lower_at, ranges_at}
use Rattle.walk.specs.Walking.{starts, Walking, Stepped}
use Rattle.walk.specs.declared.Walk.{Walk}
use Rattle.walk.specs.declared.Step.{Step}
use Rattle.reader.proofs.Stepping.{reading-ends, ranges_rise}
use Rattle.walk.proofs.Steps.{lower-starts}
use Rattle.judge.specs.Judge.{whole, meets, meeting}
use Rattle.judge.proofs.Places.{bound_top}
use Rattle.judging.specs.Private.{met_from, wants, concludes, PassedUpTo, Answering}
use Rattle.judging.specs.declared.merge.Asked.{Asked}
use Rattle.judging.specs.declared.merge.Sofar.{Sofar}
use Rattle.judging.proofs.Noting.{nothing, wants_all}

-- ---- ranges that meet

meets-behind : (x y a b : Bound) → key b ≤ key x → meets x y a b ≡ false
unfolding meets
meets-behind x y a b h = rw (le-ltb (key x) (key b) h)

meets_ahead : (x y a b : Bound) → key y ≤ key a → meets x y a b ≡ false
unfolding meets
meets_ahead x y a b h = rw (le-ltb (key a) (key y) h) (and-false (ltb (key x) (key b)))

pub meets-before : (x y a b : Bound) → key a < key y → meets x y a b ≡ ltb (key x) (key b)
unfolding meets
meets-before x y a b h = rw (lt-ltb (key a) (key y) h) (and-true (ltb (key x) (key b)))

-- no range behind y meets what ends there
pub none_ahead : (x y a : Bound) (rs : List Range) → Rising a rs → key y ≤ key a → meeting x y a (whole rs) ≡ []
unfolding meeting each_range flatten whole
none_ahead x y a [] h l = rw (meets_ahead x y a infinity l)
none_ahead x y a (range u p ∷ rs) h l = rw (meets_ahead x y a u l) (none_ahead x y u rs h.3 (let z = h.0 in omega arith))

-- nothing meets what begins at infinity
pub none-high : (x y a : Bound) (rs : List Range) → Rising a rs → key infinity ≤ key x → meeting x y a (whole rs) ≡ []
unfolding meeting each_range flatten whole
none-high x y a [] h l = rw (meets-behind x y a infinity l)
none-high x y a (range u p ∷ rs) h l = rw (meets-behind x y a u (omega (arith, bound_top u h.1))) (none-high x y u rs h.3 l)

-- ---- from a walk on

module _ (T : Table) (m : List ℕ) where
  pub met_step : (w : Walk) (s : Step) → Stepped T m w s → (x y : Bound)
      → met_from x y m w ≡ cond (meets x y (lower_at w.cursor) (upper_of s.span)) (payload_of s.payload m ∷ []) [] ++ met_from x y m s.next
  unfolding met_from meeting each_range flatten whole
  met_step w s h x y = rw (h.first, h.upper) refl

  pub met-end : (w : Walk) → length m ≤ w.cursor.at → (x y : Bound) → met_from x y m w ≡ cond (meets x y (lower_at w.cursor) infinity) (skip ∷ []) [] ++ []
  unfolding met_from meeting each_range flatten whole
  met-end w h x y = rw (reading-ends m w.cursor h) refl

  pub met_start : (x y : Bound) → met_from x y m starts ≡ meeting x y start (whole (ranges_at m starts.cursor))
  unfolding met_from
  met_start x y = rw lower-starts refl

  pub met-none : Bytes m → (w : Walk) → Walking T m w → (x y : Bound) → key y ≤ key (lower_at w.cursor) → met_from x y m w ≡ []
  unfolding met_from
  met-none by w h x y l = none_ahead x y (lower_at w.cursor) (ranges_at m w.cursor) (ranges_rise m w.cursor by h.reads) l

  pub met-high : Bytes m → (w : Walk) → Walking T m w → (x y : Bound) → key infinity ≤ key x → met_from x y m w ≡ []
  unfolding met_from
  met-high by w h x y l = none-high x y (lower_at w.cursor) (ranges_at m w.cursor) (ranges_rise m w.cursor by h.reads) l

  -- ---- the loop: s is what is known of the ranges from w₀ up to w

  module _ (a : Asked) (x y : Bound) (w₀ : Walk) where
    pub record Merging (s : Sofar) (w : Walk) : Type 0 where
      pub walking : Walking T m w
      pub low : key (lower_at w.cursor) < key y
      pub sofar : wants a (met_from x y m w₀) ≡ concludes a s (met_from x y m w)
      pub passed : PassedUpTo y m w₀ w

    -- r is s with one payload more, if its range meets
    abbrev Noted : Sofar → Sofar → Bool → Payload → Type 0
    Noted s r meets p = (ps : List Payload) → concludes a r ps ≡ concludes a s (cond meets (p ∷ []) [] ++ ps)

    answered_if : (fits : Bool) → fits ≡ wants a (met_from x y m w₀) → (w : Walk) → Walking T m w → key (lower_at w.cursor) ≤ key y → PassedUpTo y m w₀ w
        → Answering a T m w₀ x y (then_some fits w)
    answered_if true e w h l p = (sym e, record { walking = h; low = l; passed = p })
    answered_if false e w h l p = sym e

    pub merging_start : Walking T m w₀ → key (lower_at w₀.cursor) ≤ key x → key x < key y → Merging nothing w₀
    merging_start h l g = record { walking = h; low = omega arith; sofar = wants_all a (met_from x y m w₀); passed = λ c d e. refl }

    module _ (s : Sofar) (w : Walk) (h : Merging s w) (r : Sofar) where
      module _ (st : Step) (step : Stepped T m w st) (meet : Bool) (e : meet ≡ ltb (key x) (key (upper_of st.span))) (n : Noted s r meet (payload_of st.payload m)) where
        one_more : wants a (met_from x y m w₀) ≡ concludes a r (met_from x y m st.next)
        one_more =
            let same : meets x y (lower_at w.cursor) (upper_of st.span) ≡ meet = meets-before x y (lower_at w.cursor) (upper_of st.span) h.low ∙ sym e in
            h.sofar
            ∙ ap (concludes a s) (met_step w st step x y)
            ∙ ap (λ (b : Bool). concludes a s (cond b (payload_of st.payload m ∷ []) [] ++ met_from x y m st.next)) same
            ∙ sym (n (met_from x y m st.next))

        passes : key (upper_of st.span) < key y → PassedUpTo y m w st.next
        passes l c d g = met_step w st step c d ∙ rw (meets-behind c d (lower_at w.cursor) (upper_of st.span) (omega arith))

        pub merging_next : ltb (key (upper_of st.span)) (key y) ≡ true → Merging r st.next
        merging_next t =
            let l = ltb-true (key (upper_of st.span)) (key y) t in
            record {
              walking = step.next;
              low = rw step.upper l;
              sofar = one_more;
              passed = λ c d g. h.passed c d g ∙ passes l c d g;
            }

        pub merging_stop : Bytes m → ltb (key (upper_of st.span)) (key y) ≡ false → (fits : Bool) → fits ≡ concludes a r [] → Answering a T m w₀ x y (then_some fits w)
        merging_stop by t fits f =
            let l = ltb-false (key (upper_of st.span)) (key y) t in
            answered_if fits (f ∙ sym (one_more ∙ ap (concludes a r) (met-none by st.next step.next x y (rw step.upper l)))) w h.walking (omega (arith, h.low)) h.passed

      pub merging_end : key x < key infinity → length m ≤ w.cursor.at → Noted s r true skip → (fits : Bool) → fits ≡ concludes a r [] → Answering a T m w₀ x y (then_some fits w)
      merging_end l g n fits f =
          let same : meets x y (lower_at w.cursor) infinity ≡ true = meets-before x y (lower_at w.cursor) infinity h.low ∙ lt-ltb (key x) (key infinity) l in
          answered_if fits (f ∙ n [] ∙ sym (h.sofar ∙ ap (concludes a s) (met-end w g x y ∙ rw same))) w h.walking (omega (arith, h.low)) h.passed
