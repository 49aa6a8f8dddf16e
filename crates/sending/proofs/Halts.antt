-- Ranges that were handed over, measured or written, up to the first that has no room.
use Prim.Native.Nat.{ℕ, ◌+◌, ◌≤◌, ◌<◌}
use mathlib.Core.Path.{◌≡◌, refl, sym, ap, ◌∙◌}
use mathlib.Core.Bool.{Bool, true, false}
use mathlib.Core.List.{List, [], ◌∷◌, ◌++◌, append-nil, append_assoc}
use native.Mathlib.Omega.{arith}
use lib.ListN.{length, drop, replicate, length-append, length-replicate}
use borrow.Author.Tests.{leb-false, lt-leb}
use Rattle.message.specs.Bound.{Bound, start}
use Rattle.message.specs.Message.{Range, range, upper, spell_ranges, spell_message}
use Rattle.message.specs.Meaning.{is_skip, tidy, write_message}
use Rattle.message.specs.WellFormed.{All, Rising, WellFormed}
use Rattle.message.specs.Code.{range_of}
use Rattle.message.proofs.Exact.{by_test}
use Rattle.writer.specs.Writing.{Verdict, taken, refused, started, lower_of, more_bytes, moved, next, out_after}
use Rattle.writer.specs.Private.{Lawful}
use Rattle.writer.specs.Stream.{Handed, meant, State, before, hand_after, hand_over}
use Rattle.writer.specs.Handover.{is_taken, Fit, HandsOver}
use Rattle.writer.specs.declared.write.Writer.{Writer}
use Rattle.writer.proofs.Handover.{by_verdict, verdict_on, moved_by, laid, refused_stays, hand_taken, first_taken}
use Rattle.writer.proofs.Steps.{ready}
use Rattle.writer.specs.Handover.{Follows}
use Rattle.writer.proofs.Stream.{feed, follow, begun, out-taken, same_length, filled}
use Rattle.writer.proofs.Fits.{handed-fits}
use Rattle.limit.specs.Limit.{run_end}
use Rattle.limit.proofs.Runs.{end-behind}
use Rattle.limit.proofs.Reading.{end-append}
use Rattle.shorten.proofs.Fitting.{taken-room}

-- the writer w was handed the ranges `done`, which n bytes hold
pub record Behind (n : ℕ) (done : List Range) (w : Writer) : Type 0 where
  pub follows : Follows done w
  pub lower : run_end start done ≡ lower_of w
  pub lawful : Lawful w.bound
  pub small : length (write_message done) ≤ n

-- of the ranges `target`, handed over behind `first`, `done` were taken, and `next` has no room; w is the writer then
pub record Halt (n : ℕ) (first target : List Range) (w : Writer) : Type 0 where
  pub done : List Range
  pub next : Range
  pub rest : List Range
  pub splits : done ++ (next ∷ rest) ≡ target
  pub stands : Behind n (first ++ done) w
  pub over : n < length (write_message ((first ++ done) ++ (next ∷ [])))

by-writer : (n : ℕ) (d : List Range) (w v : Writer) → w ≡ v → Behind n d v → Behind n d w
by-writer n d w v e b = rw e b

pub rising-behind : (x : Bound) (a b : List Range) → Rising x (a ++ b) → Rising (run_end x a) b
unfolding run_end
rising-behind x [] b h = h
rising-behind x (range u p ∷ a) b h = rising-behind u a b h.3

pub rising-front : (x : Bound) (a b : List Range) → Rising x (a ++ b) → Rising x a
rising-front x [] b h = tt
rising-front x (range u p ∷ a) b h = (h.0, h.1, h.2, rising-front u a b h.3)

pub lawful-moved : (w : Writer) (h : Handed) → Lawful h.range.bound → Lawful (moved_by w h).bound
unfolding moved
lawful-moved w h l = by_test (is_skip (range_of h.range h.source)) (λ e. rw e l) (λ e. rw e l)

lower-moved : (w : Writer) (h : Handed) → lower_of (moved_by w h) ≡ upper (range_of h.range h.source)
unfolding moved
lower-moved w h = by_test (is_skip (range_of h.range h.source)) (λ e. rw e refl) (λ e. rw e refl)

pub laid-length : (writing : Bool) (w : Writer) (h : Handed) (o : List ℕ) → taken ≡ verdict_on w o h → length (laid writing w h o) ≡ length o
laid-length false w h o e = refl
laid-length true w h o e =
    ap length (out-taken w h.range h.source o e)
    ∙ same_length (more_bytes w (range_of h.range h.source)) o w.at (ready (length o) w h.range h.source e).3

no-refusal : {k : ℕ} → ◌≡◌ {A = Verdict} taken (refused k) → ⊥
no-refusal e = let z : ◌≡◌ {A = ℕ} 0 1 = cc in omega arith

size_with_lem : (rs : List Range) (w : Writer) (x : Range) → Follows rs w → length (write_message (rs ++ (x ∷ []))) ≡ w.at + length (more_bytes w x)
size_with_lem rs w x f = rw (feed rs w x f, length-append (write_message rs) (more_bytes w x), f.place) refl

pub all_append : {A : Type 0} (P : A → Type 0) (a b : List A) → All P (a ++ b) → All P a × All P b
all_append P [] b h = (tt, h)
all_append P (x ∷ a) b h = let r = all_append P a b h.1 in ((h.0, r.0), r.1)

pub meant-append : (a b : List Handed) → meant (a ++ b) ≡ meant a ++ meant b
meant-append [] b = refl
meant-append (h ∷ a) b = rw (meant-append a b)

module _ (writing : Bool) where
  -- ---- all were taken

  pub all_taken : (n : ℕ) (rs : List Range) (w : Writer) (hs : List Handed) (o : List ℕ) → length o ≡ n → Behind n rs w → All Fit hs
      → (hand_over writing (before w o) hs).verdict ≡ taken
      → Behind n (rs ++ meant hs) (hand_over writing (before w o) hs).writer × (length (hand_over writing (before w o) hs).out ≡ n)
  unfolding hand_over
  all_taken n rs w [] o e b a v = (rw (append-nil rs) b, e)
  all_taken n rs w (h ∷ hs) o e b a v =
      let x = range_of h.range h.source in
      let t = first_taken writing w o h hs v in
      let on = hand_taken writing w o h hs t in
      let fit = (ready (length o) w h.range h.source t).3 in
      rw (on, ← append_assoc rs (x ∷ []) (meant hs))
      (all_taken n (rs ++ (x ∷ [])) (moved_by w h) hs (laid writing w h o) (laid-length writing w h o t ∙ e)
      (record {
        follows = follow rs w h.range h.source b.follows;
        lower = end-behind start rs x ∙ sym (lower-moved w h);
        lawful = lawful-moved w h a.0.0;
        small = rw (size_with_lem rs w x b.follows) (omega (arith, fit, e));
      }) a.1 (rw on at v))

  -- ---- one was refused

  -- the first that was
  pub record Refused (w : Writer) (o : List ℕ) (hs : List Handed) : Type 0 where
    pub front : List Handed
    pub one : Handed
    pub back : List Handed
    pub is : front ++ (one ∷ back) ≡ hs
    pub passes : (hand_over writing (before w o) front).verdict ≡ taken
    pub number : ℕ
    pub refuses : refused number ≡ verdict_on (hand_over writing (before w o) front).writer (hand_over writing (before w o) front).out one
    pub writer : (hand_over writing (before w o) hs).writer ≡ (hand_over writing (before w o) front).writer
    pub out : (hand_over writing (before w o) hs).out ≡ (hand_over writing (before w o) front).out

  out_stays : (w : Writer) (o : List ℕ) (h : Handed) (k : ℕ) → refused k ≡ verdict_on w o h → laid writing w h o ≡ o
  unfolding out_after
  out_stays w o h k e = by writing
    where
      by : (b : Bool) → laid b w h o ≡ o
      by true = rw (← e) refl
      by false = refl

  stays : (w : Writer) (o : List ℕ) (h : Handed) (hs : List Handed) (k : ℕ) → refused k ≡ verdict_on w o h
      → ((hand_over writing (before w o) (h ∷ hs)).writer ≡ w) × ((hand_over writing (before w o) (h ∷ hs)).out ≡ o)
  unfolding hand_over next
  stays w o h hs k e =
      let r = refused_stays writing (hand_after taken writing h (before w o)) hs k (sym e) in
      (ap (λ (s : State). s.writer) r ∙ rw (← e) refl, ap (λ (s : State). s.out) r ∙ out_stays w o h k e)

  pub first-refused : (w : Writer) (o : List ℕ) (hs : List Handed) (k : ℕ) → (hand_over writing (before w o) hs).verdict ≡ refused k → Refused w o hs
  unfolding hand_over
  first-refused w o [] k v = absurd (no-refusal v)
  first-refused w o (h ∷ hs) k v =
      by_verdict (verdict_on w o h)
      (λ t.
      let on = hand_taken writing w o h hs t in
      let r = first-refused (moved_by w h) (laid writing w h o) hs k (rw on at v) in
      let front = hand_taken writing w o h r.front t in
      record {
        front = h ∷ r.front;
        one = r.one;
        back = r.back;
        is = ap (λ (l : List Handed). h ∷ l) r.is;
        passes = rw front r.passes;
        number = r.number;
        refuses = rw front r.refuses;
        writer = rw (on, front) r.writer;
        out = rw (on, front) r.out;
      })
      (λ j t. record { front = []; one = h; back = hs; is = refl; passes = refl; number = j; refuses = t; writer = (stays w o h hs j t).0; out = (stays w o h hs j t).1 })

  module _ (n : ℕ) (first : List Range) (w : Writer) (o : List ℕ) (e : length o ≡ n) (b : Behind n first w) (target : List Range) (t : State)
      (p : HandsOver writing target (before w o) t) (rises : Rising (lower_of w) target) (k : ℕ) (v : t.verdict ≡ refused k) where
    abbrev r : Refused w o p.handed
    r = first-refused w o p.handed k (ap (λ (s : State). s.verdict) (sym p.leads) ∙ v)

    abbrev front : State
    front = hand_over writing (before w o) r.front

    fit : All Fit r.front × All Fit (r.one ∷ r.back)
    fit = all_append Fit r.front (r.one ∷ r.back) (rw r.is p.fit)

    behind : Behind n (first ++ meant r.front) front.writer × (length front.out ≡ n)
    behind = all_taken n first w r.front o e b fit.0 r.passes

    abbrev x : Range
    x = range_of r.one.range r.one.source

    splits : meant r.front ++ (x ∷ (meant r.back ++ p.rest)) ≡ target
    splits =
        sym (append_assoc (meant r.front) (x ∷ meant r.back) p.rest)
        ∙ ap (λ (l : List Range). l ++ p.rest) (sym (meant-append r.front (r.one ∷ r.back)) ∙ ap meant r.is)
        ∙ p.means

    above : Rising (lower_of front.writer) (x ∷ (meant r.back ++ p.rest))
    above =
        let l : run_end (lower_of w) (meant r.front) ≡ lower_of front.writer =
        ap (λ (y : Bound). run_end y (meant r.front)) (sym b.lower) ∙ sym (end-append start first (meant r.front)) ∙ behind.0.lower in
        rw l at (rising-behind (lower_of w) (meant r.front) (x ∷ (meant r.back ++ p.rest)) (rw splits rises))

    no_room : n < length (write_message ((first ++ meant r.front) ++ (x ∷ [])))
    no_room =
        let told = taken-room (length front.out) front.writer r.one.range r.one.source behind.0.lawful fit.1.0.0 fit.1.0.1 above.0 in
        let l = leb-false (front.writer.at + length (more_bytes front.writer x)) (length front.out) (sym told ∙ ap is_taken (sym r.refuses)) in
        rw (size_with_lem (first ++ meant r.front) front.writer x behind.0.follows) (omega (arith, l, behind.1))

    same_writer : t.writer ≡ front.writer
    same_writer = ap (λ (s : State). s.writer) p.leads ∙ r.writer

    pub halts : Halt n first target t.writer
    halts = record { done = meant r.front; next = x; rest = meant r.back ++ p.rest; splits = splits; stands = by-writer n (first ++ meant r.front) t.writer front.writer same_writer behind.0; over = no_room }

-- where it is written, the buffer holds what was taken, and the bytes behind it remain
module _ (n : ℕ) (first : List Range) (w : Writer) (o : List ℕ) (e : length o ≡ n) (b : Behind n first w) (target : List Range) (t : State)
    (p : HandsOver true target (before w o) t) (rises : Rising (lower_of w) target) (k : ℕ) (v : t.verdict ≡ refused k) where
  abbrev h : Halt n first target t.writer
  h = halts true n first w o e b target t p rises k v

  pub halts_out : (out : List ℕ) → o ≡ write_message first ++ drop (length (write_message first)) out
      → t.out ≡ write_message (first ++ h.done) ++ drop (length (write_message (first ++ h.done))) out
  unfolding halts
  halts_out out q =
      let f = first-refused true w o p.handed k (ap (λ (s : State). s.verdict) (sym p.leads) ∙ v) in
      ap (λ (s : State). s.out) p.leads ∙ f.out ∙ filled first w f.front out o b.follows q f.passes

-- ---- from the start of a message

started-lawful : Lawful started.bound
unfolding started
started-lawful = (omega arith, omega arith)

first-size : length (write_message []) ≡ 1
unfolding write_message tidy spell_message spell_ranges
first-size = refl

end-start : run_end start [] ≡ lower_of started
unfolding run_end started
end-start = refl

pub start-lower : lower_of started ≡ start
unfolding started
start-lower = refl

pub at_start : (n : ℕ) → 1 ≤ n → Behind n [] started
at_start n l = record { follows = begun; lower = end-start; lawful = started-lawful; small = rw first-size l }

-- what a function of ours handed over from the start of a message that the buffer does not hold
module _ (writing : Bool) (target : List Range) (o : List ℕ) (t : State) (p : HandsOver writing target (before started o) t) (one : 1 ≤ length o) (well : WellFormed target)
    (exceeds : length o < length (write_message target)) where
  pub no-room-left : t.verdict ≡ refused 12
  no-room-left = handed-fits writing target o t p one well ∙ rw (lt-leb (length (write_message target)) (length o) exceeds) refl

  pub start_halts : Halt (length o) [] target t.writer
  start_halts = halts writing (length o) [] started o refl (at_start (length o) one) target t p (rw start-lower well) 12 no-room-left

pub handed_halts : (target : List Range) (size : ℕ) (t : State) → HandsOver false target (before started (replicate size 0)) t → 1 ≤ size → WellFormed target
    → size < length (write_message target) → Halt size [] target t.writer
handed_halts target size t p one well exceeds =
    let n = length-replicate {A = ℕ} size 0 in
    rw n at (start_halts false target (replicate size 0) t p (rw n one) well (rw n exceeds))
