-- Each call of either end may be given a byte limit and may cut by either rule, and each take may be handed another table: `demand3_mixed`; and what a session that is done left, `ended`.
use Prim.Native.Nat.{ℕ}
use mathlib.Core.Path.{◌≡◌, sym, ◌∙◌}
use mathlib.Core.Bool.{true}
use mathlib.Core.List.{List, ◌++◌}
use lib.ListN.{length}
use Rattle.message.specs.Message.{Range}
use Rattle.message.specs.WellFormed.{Bytes}
use Rattle.theory.specs.Message.{Message}
use Rattle.theory.specs.Rounds.{OddItems, Cut, Nested, Divided}
use Rattle.theory.specs.Demand.{Enough}
use Rattle.theory.proofs.Tests.{clash}
use Rattle.table.specs.Answer.{answer, refused}
use Rattle.table.specs.Table.{Table, items}
use Rattle.cutting.specs.Cutting.{outside_limits}
use Rattle.cutting.proofs.Projection.{project}
use Rattle.limit.specs.Limit.{Limit, unlimited}
use Rattle.ends.specs.Opener.{Lent, table_label, opened_within, taken_within}
use Rattle.ends.specs.Demand.{Place, Reported, OneTime}
use Rattle.ends.specs.Takes.{Owed}
use Rattle.ends.specs.Mixed.{by, AnyTake, handed_to, opening_within, taking, AnswersWithin, LabelTells, Promised, WholeReply, WholeQuery, WholeFirst, Takes, Demand3Mixed}
use Rattle.ends.proofs.Lists.{Listed}
use Rattle.ends.proofs.Tables.{Kept, kept, keys_of}
use Rattle.ends.proofs.Calls.{Checked, by_checks, answer_checks, unrefused-opening, unrefused-take, refused-take}
use Rattle.ends.proofs.Relations.{Means, means_alone, Begun, Replied, Took}
use Rattle.ends.proofs.Takes.{Lawful, Narrows, reported, owed_at, standing, open_never, standing_never, owed_never}
use Rattle.ends.proofs.Standing.{Standing, stands-listed}
use Rattle.ends.proofs.Labels.{not-other}
use Rattle.ends.proofs.Own.{opening-begun, first-divided, answer-replied, answer_nests, take_took, take-divides}

-- ---- the relations ask nothing of where the odd items go

kept_by_lem : (o : OddItems) {T : Table} {c : Cut} → Kept T c → Kept T (by o c)
kept_by_lem o k = record { own = k.own; parts = k.parts; listed = k.listed }

checked_by : (o : OddItems) {T : Table} {c : Cut} → Checked T (by o c) → Checked T c
unfolding outside_limits
checked_by o k = record { size = k.size; order = k.order; limits = k.limits }

divided-by : (o : OddItems) {c : Cut} {T : List ℕ} {r n : Message (List ℕ)} → Divided (by o c) T r n → Divided c T r n
divided-by o w = record {
  parts = λ x y f st. let z = w.parts x y f st in (z.0, record { many = z.1.many; share = z.1.share });
  lists = w.lists;
}

-- What a session that is done left: it was handed an answer, so that the responder's table and cut passed checks 1 to 3; its reports are as owed; and its needed list
-- is whole ids.
pub record Ended (A B : Table) (b : Cut) (p : Place) : Type 0 where
  pub checks : Checked B b
  pub reports : Reported A B p
  pub list : Listed p.session.needed p.needed

module _ (A B : Table) (a b : Cut) where
  pub refuses : (x : AnyTake) (l : Lent) (k : ℕ) → (taking A B a b x l).answer ≡ refused k → (taking A B a b x l).lent ≡ l
  refuses x l k e = refused-take x.limit x.table (by x.odd a) x.handed.reply l k e

  -- a take that 18 does not meet was handed the table of the opening
  pub opener's : (x : AnyTake) (l : Lent) (n : ℕ) → (taking A B a b x l).answer ≡ answer n → l.session.label ≡ table_label A → LabelTells A B a b x → x.table ≡ A
  opener's x l n e s tells =
      tells (sym (not-other x.table l.session (unrefused-take x.limit x.table (by x.odd a) x.handed.reply l n e).label) ∙ s)

  -- such a take; and divided, where its query does not exceed the limit
  pub record Same (x : AnyTake) (l : Lent) (n : ℕ) (rs : List Range) : Type 0 where
    pub took : Took A rs l n (taking A B a b x l).lent
    pub divided : WholeQuery A B a b x → Divided a (keys_of A) (project rs) (project took.query)

  pub same : Kept A a → (x : AnyTake) (l : Lent) (n : ℕ) → (taking A B a b x l).answer ≡ answer n → x.table ≡ A
      → {R : Message (List ℕ)} (w : Means x.handed.reply R) → Same x l n w.ranges
  same k_a x l n e is w =
      let f : (taken_within x.limit A (by x.odd a) x.handed.reply l).answer ≡ answer n = rw is at e in
      let k = kept_by_lem x.odd k_a in
      rw is (record {
        took = take_took x.limit A (by x.odd a) k x.handed.reply l n f w;
        divided = λ whole. divided-by x.odd (take-divides x.limit A (by x.odd a) k x.handed.reply l n f w whole);
      })

  -- a responder that passes checks 1 to 3
  module _ (k_a : Kept A a) (k_b : Kept B b) where
    abbrev replied : (limit : Limit) (o : OddItems) {q r : List ℕ} → AnswersWithin A B a b limit o q r → {Q : Message (List ℕ)} → Means q Q → Replied B Q r
    replied limit o {q} {r} h w = answer-replied limit B (by o b) (kept_by_lem o k_b) q r h.out h.size h.unrefused h.written w

    abbrev lawful : Lawful handed_to (taking A B a b) (Promised A B a b) A B a
    lawful = record {
      refuses = refuses;
      takes = λ x l n e s h w. (same k_a x l n e (opener's x l n e s h.0) w).took;
      replies = λ x h w. replied h.1.0 h.1.1 h.1.2 w;
    }

    -- the same bytes as without a limit say the same
    nested : {limit : Limit} {o o' : OddItems} {q r : List ℕ} (h : AnswersWithin A B a b limit o q r) (z : AnswersWithin A B a b unlimited o' q r)
        {Q : Message (List ℕ)} (w : Means q Q) → Nested Q (replied limit o h w).message
    nested {limit} {o} {o'} {q} {r} h z w =
        rw (means_alone (replied limit o h w).means (replied unlimited o' z w).means)
        (answer_nests B (by o' b) (kept_by_lem o' k_b) q r z.out z.size z.unrefused z.written w)

    narrows : (limit : Limit) (l : Lent) (n : ℕ) (e : (opened_within limit A a l).answer ≡ answer n)
        → Narrows handed_to (taking A B a b) (Promised A B a b) A B a lawful (opening_within limit A a l) (opening-begun limit A a k_a l n e)
        (WholeFirst A B a b limit) (WholeReply A B a b) (WholeQuery A B a b)
    narrows limit l n e = record {
      opens = first-divided limit A a k_a l n e;
      replies = λ x h w z. nested h.1.2 z.1 w;
      takes = λ x l n e s h w z. (same k_a x l n e (opener's x l n e s h.0) w).divided z;
    }

  -- a responder that does not answers nothing
  never : (Checked B b → ⊥) → (x : AnyTake) → Promised A B a b x → ⊥
  never fails x h =
      let answers = h.1.2 in
      fails (checked_by h.1.1 (answer_checks h.1.0 B (by h.1.1 b) x.handed.query answers.out answers.size answers.unrefused))

  module _ (bytes-A : Bytes A.ids) (bytes-B : Bytes B.ids) (limit : Limit) (lent : Lent) (n : ℕ) (e : (opened_within limit A a lent).answer ≡ answer n) where
    k_a : Kept A a
    k_a = let w = (unrefused-opening limit A a lent n e).checks in kept A a bytes-A w.size w.order w.limits

    k_b : Checked B b → Kept B b
    k_b c = kept B b bytes-B c.size c.order c.limits

    abbrev o : Place
    o = opening_within limit A a lent

    abbrev begun : Begun A o
    begun = opening-begun limit A a k_a lent n e

    all_owed : OneTime (items A ++ items B) → (L : ℕ) → Enough a (length A.times) L → {p : Place} (ρ : Takes A B a b limit lent p)
        → Owed handed_to (taking A B a b) (Promised A B a b) (WholeFirst A B a b limit) (WholeReply A B a b) (WholeQuery A B a b) A B L ρ
    all_owed once L enough ρ =
        by_checks B b
        (λ c. owed_at handed_to (taking A B a b) (Promised A B a b) A B a (WholeFirst A B a b limit) (WholeReply A B a b) (WholeQuery A B a b)
        (lawful k_a (k_b c)) o begun k_a (k_b c).own once (narrows k_a (k_b c) limit lent n e) L enough ρ)
        (λ fails. owed_never handed_to (taking A B a b) (Promised A B a b) A B a (never fails) refuses
        o begun (WholeFirst A B a b limit) (WholeReply A B a b) (WholeQuery A B a b) L ρ)

    pub stands : {p : Place} → Takes A B a b limit lent p → Standing A p.session p.marks p.needed
    stands ρ =
        by_checks B b
        (λ c. standing handed_to (taking A B a b) (Promised A B a b) A B a (lawful k_a (k_b c)) o begun k_a ρ)
        (λ fails. standing_never handed_to (taking A B a b) (Promised A B a b) A B a (never fails) refuses o begun a k_a ρ)

    pub ended : OneTime (items A ++ items B) → {p : Place} → Takes A B a b limit lent p → p.session.done ≡ true → Ended A B b p
    ended once ρ done =
        let c : Checked B b =
        by_checks B b (λ c. c) (λ fails. clash done (open_never handed_to (taking A B a b) (Promised A B a b) A B a (never fails) refuses o begun ρ)) in
        record {
          checks = c;
          reports = reported handed_to (taking A B a b) (Promised A B a b) A B a (lawful k_a (k_b c)) o begun k_a (k_b c).own once ρ;
          list = stands-listed (stands ρ);
        }

pub demand3_mixed : Demand3Mixed
demand3_mixed A B a b bytes-A bytes-B once L smallest limit lent n e p ρ = all_owed A B a b bytes-A bytes-B limit lent n e once L smallest.enough ρ
