-- The theorem: at every place of every list of takes after one opening. The takes are those of Takes, all alike.
use Prim.Native.Nat.{ℕ, zero, suc, ◌+◌, ◌≤◌}
use mathlib.Core.Path.{◌≡◌, refl, ap}
use mathlib.Core.Bool.{true}
use mathlib.Core.List.{List, [], ◌∷◌, ◌++◌}
use native.Mathlib.Omega.{arith}
use lib.ListN.{length}
use Rattle.message.specs.WellFormed.{Bytes}
use Rattle.theory.specs.Rounds.{Cut}
use Rattle.theory.specs.Demand.{Enough}
use Rattle.table.specs.Answer.{answer, refused}
use Rattle.table.specs.Table.{Table, items}
use Rattle.limit.specs.Limit.{unlimited, exceeds}
use Rattle.ends.specs.Calls.{Result}
use Rattle.ends.specs.Opener.{Lent, opened, taken}
use Rattle.ends.specs.Demand.{Take, Place, one, opening, Reported, call, next, run, Answers, HandedAnswers, InRow, unrefused, Owed, Throughout, OneTime, Demand3}
use Rattle.ends.specs.Takes as takes
use Rattle.ends.specs.Takes.{Run, none, then_refused, then_taken, Row}
use Rattle.ends.proofs.Tables.{Kept, kept}
use Rattle.ends.proofs.Calls.{by_answer, Checked, by_checks, answer_checks, unrefused-opening, refused-take}
use Rattle.ends.proofs.Relations.{Begun}
use Rattle.ends.proofs.Takes.{Lawful, Narrows, reported, owed_at, reported_never, owed_never, all_whole, row_fewer}
use Rattle.ends.proofs.Own.{opening-begun, first-divided, answer-replied, answer_nests, take_took, take-divides}

module _ (A B : Table) (a b : Cut) where
  -- ---- the takes

  abbrev itself : Take → Take
  itself t = t

  abbrev taking : Take → Lent → Result Lent
  taking t l = taken A a t.reply l

  abbrev Answering : Take → Type 0
  Answering t = Answers A B a b t.query t.reply

  abbrev Takes : Place → Place → Type 0
  Takes o p = Run itself taking Answering o p

  -- no message is ever cut short
  abbrev Always : Take → Type 0
  Always t = Unit {0}

  abbrev OwedAt : ℕ → {o p : Place} → Takes o p → Type 0
  OwedAt L ρ = takes.Owed itself taking Answering (Unit {0}) Always Always A B L ρ

  -- ---- from the front

  module _ (L : ℕ) (o : Place) (all : (p : Place) (ρ : Takes o p) → OwedAt L ρ) where
    handed-front : (p : Place) (row rest : List Take) → HandedAnswers A B a b p (row ++ rest) → HandedAnswers A B a b p row
    handed-front p [] rest h = tt
    handed-front p (t ∷ row) rest h = (h.0, handed-front (next A B a b p t) row rest h.1)

    row_done : {p : Place} (ρ : Takes o p) (n : ℕ) → Row itself taking Answering n ρ → (ts : List Take) → HandedAnswers A B a b p ts → InRow A B a b p ts
        → L + 1 ≤ n + unrefused A B a b p ts → (run A B a b p ts).session.done ≡ true
    row_done {p} ρ n row [] h r many = let last = row_fewer itself taking Answering (suc L) n ρ (omega arith) row in (all p ρ).ends (all_whole itself taking Answering (suc L) ρ last) last
    row_done {p} ρ n row (t ∷ ts) h r many =
        by_answer (call A B a b p t).answer
        (λ k e. let count = ap one e in
        row_done {p = next A B a b p t} (then_taken ρ t k e (h.0 k e).0 (h.0 k e).1) (suc n) (r.0 k e, row) ts h.1 r.1 (omega arith))
        (λ k e. let count = ap one e in
        row_done {p = next A B a b p t} (then_refused ρ t k e) n (refused_row n k e row) ts h.1 r.1 (omega arith))
      where
        refused_row : (n k : ℕ) (e : (call A B a b p t).answer ≡ refused k) → Row itself taking Answering n ρ → Row itself taking Answering n (then_refused ρ t k e)
        refused_row zero k e row = tt
        refused_row (suc n) k e row = row

    owed : {p : Place} (ρ : Takes o p) (ts : List Take) → HandedAnswers A B a b p ts → Owed A B a b L p ts
    owed {p} ρ ts h =
        record { reported = (all p ρ).reported; ends = λ row rest e r many. row_done ρ 0 tt row (handed-front p row rest (rw e at h)) r (omega arith) }

    throughout : {p : Place} (ρ : Takes o p) (ts : List Take) → HandedAnswers A B a b p ts → Throughout A B a b L p ts
    throughout ρ [] h = owed ρ [] h
    throughout {p} ρ (t ∷ ts) h = (
      owed ρ (t ∷ ts) h,
      by_answer (call A B a b p t).answer
          (λ n e. throughout {p = next A B a b p t} (then_taken ρ t n e (h.0 n e).0 (h.0 n e).1) ts h.1)
          (λ k e. throughout {p = next A B a b p t} (then_refused ρ t k e) ts h.1),
    )

  -- ---- the calls

  -- a responder that passes checks 1 to 3
  module _ (k_a : Kept A a) (k_b : Kept B b) where
    abbrev lawful : Lawful itself taking Answering A B a
    lawful = record {
      refuses = λ t l k e. refused-take unlimited A a t.reply l k e;
      takes = λ t l n e s h w. take_took unlimited A a k_a t.reply l n e w;
      replies = λ t h w. answer-replied unlimited B b k_b t.query t.reply h.out h.size h.unrefused h.written w;
    }

    narrows : (l : Lent) (n : ℕ) (e : (opened A a l).answer ≡ answer n)
        → Narrows itself taking Answering A B a lawful (opening A a l) (opening-begun unlimited A a k_a l n e) (Unit {0}) Always Always
    unfolding exceeds
    narrows l n e = record {
      opens = λ u. first-divided unlimited A a k_a l n e refl;
      replies = λ t h w u. answer_nests B b k_b t.query t.reply h.out h.size h.unrefused h.written w;
      takes = λ t l n e s h w u. take-divides unlimited A a k_a t.reply l n e w (λ rs h. refl);
    }

  -- a responder that does not answers nothing
  never : (Checked B b → ⊥) → (t : Take) → Answering t → ⊥
  never fails t w = fails (answer_checks unlimited B b t.query w.out w.size w.unrefused)

  module _ (bytes-A : Bytes A.ids) (bytes-B : Bytes B.ids) (once : OneTime (items A ++ items B)) (lent : Lent) (n : ℕ) (e : (opened A a lent).answer ≡ answer n) where
    abbrev o : Place
    o = opening A a lent

    k_a : Kept A a
    k_a = let w = (unrefused-opening unlimited A a lent n e).checks in kept A a bytes-A w.size w.order w.limits

    abbrev begun : Begun A o
    begun = opening-begun unlimited A a k_a lent n e

    refuses : (t : Take) (l : Lent) (k : ℕ) → (taking t l).answer ≡ refused k → (taking t l).lent ≡ l
    refuses t l k e = refused-take unlimited A a t.reply l k e

    all_owed : (L : ℕ) → Enough a (length A.times) L → (p : Place) (ρ : Takes o p) → OwedAt L ρ
    all_owed L enough p ρ =
        by_checks B b
        (λ c. let k_b = kept B b bytes-B c.size c.order c.limits in
        owed_at itself taking Answering A B a (Unit {0}) Always Always (lawful k_a k_b) o begun k_a k_b.own once (narrows k_a k_b lent n e) L enough ρ)
        (λ fails. owed_never itself taking Answering A B a (never fails) refuses o begun (Unit {0}) Always Always L ρ)

    pub all_reported : (p : Place) → Takes o p → Reported A B p
    all_reported p ρ =
        by_checks B b
        (λ c. let k_b = kept B b bytes-B c.size c.order c.limits in
        reported itself taking Answering A B a (lawful k_a k_b) o begun k_a k_b.own once ρ)
        (λ fails. reported_never itself taking Answering A B a (never fails) refuses o begun ρ)

    -- at the end of a list of takes
    after-takes : {p : Place} → Takes o p → (ts : List Take) → HandedAnswers A B a b p ts → Takes o (run A B a b p ts)
    after-takes ρ [] h = ρ
    after-takes {p} ρ (t ∷ ts) h =
        by_answer (call A B a b p t).answer
        (λ n e. after-takes {p = next A B a b p t} (then_taken ρ t n e (h.0 n e).0 (h.0 n e).1) ts h.1)
        (λ k e. after-takes {p = next A B a b p t} (then_refused ρ t k e) ts h.1)

    pub reported-after : (ts : List Take) → HandedAnswers A B a b o ts → Reported A B (run A B a b o ts)
    reported-after ts h = all_reported (run A B a b o ts) (after-takes none ts h)

-- Demand 3 of the text
pub demand3 : Demand3
demand3 A B a b bytes-A bytes-B once L smallest lent n e takes h =
    throughout A B a b L (opening A a lent) (all_owed A B a b bytes-A bytes-B once lent n e L smallest.enough) none takes h
