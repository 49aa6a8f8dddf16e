-- Every range of a message in turn.
use Prim.Native.Nat.{ℕ, ◌≤◌, ◌<◌}
use mathlib.Core.Path.{◌≡◌, refl, sym, ap, ◌∙◌}
use mathlib.Core.Bool.{Bool, true, false, ◌&&◌}
use mathlib.Core.List.{List, [], ◌∷◌}
use Rattle.std.specs.Prelude.{Some, None}
use Rattle.std.proofs.Math.Bool.{and-true}
use native.Mathlib.Omega.{arith}
use lib.ListN.{length}
use Rattle.message.specs.Bound as B
use Rattle.message.specs.Bound.{infinity, finite, key, start}
use Rattle.message.specs.Message.{Payload, skip, Range, range}
use Rattle.message.specs.Code.{bound_of, payload_of}
use Rattle.message.specs.WellFormed.{Bytes, Rising}
use Rattle.message.specs.declared.Bound.{Bound}
use Rattle.message.proofs.Order.{key-parts}
use Rattle.table.specs.Lists.{every}
use Rattle.table.specs.Table.{Table, items, within}
use Rattle.cutting.specs.Private.{own_in, upper_of}
use Rattle.ends.specs.Calls.{each_range}
use Rattle.reader.specs.Private.{lower_at, ranges_at}
use Rattle.walk.specs.Walking.{starts, Walking, Stepped}
use Rattle.walk.specs.declared.Walk.{Walk}
use Rattle.walk.specs.declared.Step.{Step}
use Rattle.reader.proofs.Stepping.{reading-ends, ranges_rise}
use Rattle.walk.proofs.Steps.{lower-starts}
use Rattle.judge.specs.Judge.{is_skip, whole, meeting, of_table, answers, every_range}
use Rattle.judge.proofs.Places.{bound_top}
use Rattle.judging.specs.Private.{truth, met_from, wants, PassedUpTo, Answering}
use Rattle.judging.specs.declared.merge.Asked.{Asked}
use Rattle.judging.proofs.Merging.{met_start}

-- the key of a bound, by its time and its prefix
pub edge_key : (b : Bound) (beside : List ℕ) (t : ℕ) (p : List ℕ) → t ≡ B.time (bound_of b []) → p ≡ B.prefix (bound_of b beside) → key (finite t p) ≡ key (bound_of b beside)
edge_key Bound.Infinity beside t p e d = rw (e, d) (key-parts infinity)
edge_key (Bound.At time len) beside t p e d = rw (e, d) refl

-- ---- a test on every range from a walk on

module _ (test : B.Bound → B.Bound → Payload → Bool) (m : List ℕ) where
  abbrev pub pass_from : Walk → Bool
  pass_from w = every (λ b. b) (each_range test (lower_at w.cursor) (ranges_at m w.cursor))

  pub pass_start : every_range test (ranges_at m starts.cursor) ≡ pass_from starts
  pass_start = rw lower-starts refl

  pub pass_end : (w : Walk) → length m ≤ w.cursor.at → pass_from w ≡ true
  unfolding every each_range
  pass_end w h = rw (reading-ends m w.cursor h) refl

  pub pass_step : (T : Table) (w : Walk) (s : Step) → Stepped T m w s → pass_from w ≡ (test (lower_at w.cursor) (upper_of s.span) (payload_of s.payload m) && pass_from s.next)
  unfolding every each_range
  pass_step T w s h = rw (h.first, h.upper) refl

  -- the same with the skip behind the last range
  abbrev pub whole_from : Walk → Bool
  whole_from w = every (λ b. b) (each_range test (lower_at w.cursor) (whole (ranges_at m w.cursor)))

  pub whole-start : every_range test (whole (ranges_at m starts.cursor)) ≡ whole_from starts
  whole-start = rw lower-starts refl

  pub whole-end : (w : Walk) → length m ≤ w.cursor.at → whole_from w ≡ (test (lower_at w.cursor) infinity skip && true)
  unfolding every each_range whole
  whole-end w h = rw (reading-ends m w.cursor h) refl

  pub whole_step : (T : Table) (w : Walk) (s : Step) → Stepped T m w s → whole_from w ≡ (test (lower_at w.cursor) (upper_of s.span) (payload_of s.payload m) && whole_from s.next)
  unfolding every each_range whole
  whole_step T w s h = rw (h.first, h.upper) refl

-- ---- the reply by itself

module _ (T : Table) (m : List ℕ) (w : Walk) (s : Step) (step : Stepped T m w s) where
  pub truth-next : true ≡ of_table (own_in T s.span) (payload_of s.payload m) → pass_from (truth T) m w ≡ pass_from (truth T) m s.next
  truth-next e = pass_step (truth T) m T w s step ∙ rw (step.own, ← e) refl

  pub truth_stop : false ≡ of_table (own_in T s.span) (payload_of s.payload m) → pass_from (truth T) m w ≡ false
  truth_stop e = pass_step (truth T) m T w s step ∙ rw (step.own, ← e) refl

-- ---- the bounds of a range that was read

rise_of : (x u : B.Bound) (p : Payload) (rs rest : List Range) → Rising x rs → rs ≡ range u p ∷ rest → (key x < key u) × (key u ≤ key infinity)
rise_of x u p rs rest h e = let z : Rising x (range u p ∷ rest) = rw e at h in (z.0, bound_top u z.1)

pub step_rises : (T : Table) (m : List ℕ) (w : Walk) (s : Step) → Bytes m → Walking T m w → Stepped T m w s → (key (lower_at w.cursor) < key (upper_of s.span)) × (key (upper_of s.span) ≤ key infinity)
step_rises T m w s by h step = rise_of (lower_at w.cursor) (upper_of s.span) (payload_of s.payload m) (ranges_at m w.cursor) (ranges_at m s.next.cursor) (ranges_rise m w.cursor by h.reads) step.first

-- ---- query and reply side by side

module _ (T : Table) (query reply : List ℕ) where
  abbrev pub asked : B.Bound → B.Bound → Payload → Bool
  asked x y p = answers (within x y (items T)) p (meeting x y start (whole (ranges_at reply starts.cursor)))

  -- the query is answered up to the walk w, and the ranges of the reply from the walk o on are those for the rest of it
  pub record Judging (w o : Walk) : Type 0 where
    pub walking : Walking T query w
    pub other : Walking T reply o
    pub low : key (lower_at o.cursor) ≤ key (lower_at w.cursor)
    pub passed : PassedUpTo (lower_at w.cursor) reply starts o
    pub rest : every_range asked (whole (ranges_at query starts.cursor)) ≡ whole_from asked query w

  pub judging_start : Walking T query starts → Walking T reply starts → Judging starts starts
  judging_start h g = record { walking = h; other = g; low = omega arith; passed = λ c d e. refl; rest = whole-start asked query }

  module _ (w o : Walk) (h : Judging w o) where
    module _ (by : Bytes query) (s : Step) (step : Stepped T query w s) (a : Asked)
        (says : (ps : List Payload) → wants a ps ≡ answers (own_in T s.span) (payload_of s.payload query) ps)
        (x : B.Bound) (ex : x ≡ lower_at w.cursor) where
      abbrev y : B.Bound
      y = upper_of s.span

      ours : meeting (lower_at w.cursor) y start (whole (ranges_at reply starts.cursor)) ≡ met_from x y reply o
      ours = sym (met_start T reply (lower_at w.cursor) y) ∙ h.passed (lower_at w.cursor) y (omega arith) ∙ ap (λ (z : B.Bound). met_from z y reply o) (sym ex)

      fits : asked (lower_at w.cursor) y (payload_of s.payload query) ≡ wants a (met_from x y reply o)
      fits = rw (step.own, ours, ← says (met_from x y reply o)) refl

      one : (b : Bool) → wants a (met_from x y reply o) ≡ b → whole_from asked query w ≡ (b && whole_from asked query s.next)
      one b e = whole_step asked query T w s step ∙ ap (λ (b : Bool). b && whole_from asked query s.next) (fits ∙ e)

      pub judging_next : (o' : Walk) → Answering a T reply o x y (Some o') → Judging s.next o'
      judging_next o' met =
          let up = step_rises T query w s by h.walking step in
          record {
            walking = step.next;
            other = met.1.walking;
            low = rw step.upper met.1.low;
            passed = λ c d g. let l : key y ≤ key c = rw step.upper at g in h.passed c d (omega (arith, up.0)) ∙ met.1.passed c d l;
            rest = h.rest ∙ one true met.0;
          }

      pub judging_stop : Answering a T reply o x y None → false ≡ every_range asked (whole (ranges_at query starts.cursor))
      judging_stop e = sym (h.rest ∙ one false e)

    pub judging_end : length query ≤ w.cursor.at → (x : B.Bound) → x ≡ lower_at w.cursor → (r : Bool) → r ≡ every is_skip (met_from x infinity reply o)
        → r ≡ every_range asked (whole (ranges_at query starts.cursor))
    unfolding answers
    judging_end l x ex r e =
        let ours : meeting (lower_at w.cursor) infinity start (whole (ranges_at reply starts.cursor)) ≡ met_from x infinity reply o =
        sym (met_start T reply (lower_at w.cursor) infinity) ∙ h.passed (lower_at w.cursor) infinity (omega arith) ∙ ap (λ (z : B.Bound). met_from z infinity reply o) (sym ex) in
        sym (h.rest ∙ whole-end asked query w l ∙ rw (ours, ← e) (and-true r))
