-- A take on the bytes is a take of the theory: a place and the theory's session agree at the opening, after a refused take and after an unrefused one.
use Prim.Native.Nat.{ℕ, zero, suc, ◌*◌}
use mathlib.Core.Path.{◌≡◌, refl, sym, ap, ◌∙◌}
use mathlib.Core.Bool.{true, false, cond, ◌||◌}
use mathlib.Core.List.{List, [], ◌∷◌, ◌++◌, flatten, Memᴰ, Forall₂}
use native.Mathlib.Omega.{arith}
use lib.ListN.{length, take, replicate}
use lib.Seq.{take_at}
use Rattle.message.specs.Bound.{start}
use Rattle.message.specs.Message.{Range, spell_message}
use Rattle.message.specs.WellFormed.{All, Sized}
use Rattle.theory.specs.Table.{has}
use Rattle.theory.specs.Message.{Message}
use Rattle.theory.specs.Message as T
use Rattle.theory.specs.Lawful.{LawfulReply}
use Rattle.theory.specs.Rounds.{Cut}
use Rattle.theory.specs.Run as theory
use Rattle.theory.specs.Ends as ends
use Rattle.theory.proofs.Tests.{by_test}
use Rattle.theory.proofs.Ends.{take-reports}
use Rattle.table.specs.Answer.{answer, refused}
use Rattle.table.specs.Lists.{keep, rising}
use Rattle.table.specs.Table.{Item, Table, items}
use Rattle.table.proofs.Items.{items-length}
use Rattle.cutting.proofs.Projection.{protocol, project}
use Rattle.ends.specs.Lists.{overwrite}
use Rattle.ends.specs.Calls.{Result, each_range}
use Rattle.ends.specs.Opener.{Lent, ones, needed_ids, table_label, skips_only, unowned, marks_after, needed_after, take_leaves}
use Rattle.ends.specs.Demand.{Take, Place, sends, hands, behind_call}
use Rattle.ends.specs.Takes.{lent_at}
use Rattle.ends.proofs.Tables.{Kept, keys_of, end_of}
use Rattle.ends.proofs.Relations.{Means, Begun, sent_of, leaves, Took}
use Rattle.ends.proofs.Projection.{skips-only}
use Rattle.ends.proofs.Reports.{numbers, marks_of, marks-after, needed-after, unowned-sized}
use Rattle.ends.proofs.Inserting.{Sorted, added_sorted}
use Rattle.ends.proofs.Lists.{overwrite-front, flatten_length, ids_flatten}

-- ---- a place and a session

-- a query and its answer
abbrev pub MeanBoth : List ℕ × List ℕ → Message (List ℕ) × Message (List ℕ) → Type 0
MeanBoth m M = Means m.0 M.0 × Means m.1 M.1

-- the place p holds in bytes what the theory's session s holds; A is the opener's table
pub record Agrees (A : Table) (p : Place) (s : theory.Session (List ℕ)) : Type 0 where
  -- the ids of the needed list
  pub ids : List (List ℕ)
  pub sized : All (Sized 32) ids
  pub list : p.needed ≡ flatten ids
  pub count : p.session.needed ≡ length ids
  pub rises : rising (numbers ids) ≡ true
  pub needed : (i : ℕ) → has i (numbers ids) ≡ s.needed i
  pub marks : p.marks ≡ marks_of s.marked (items A)
  pub marked : p.session.marked ≡ ones p.marks
  pub done : p.session.done ≡ s.done
  pub label : p.session.label ≡ table_label A
  pub sent : Forall₂ Means p.sent s.sent
  pub handed : Forall₂ MeanBoth p.handed s.handed

-- marks that are all 0
pub no_ones : (n : ℕ) → ones (replicate n 0) ≡ 0
unfolding keep
no_ones zero = refl
no_ones (suc n) = no_ones n

marks-none : (is : List Item) (n : ℕ) → length is ≡ n → replicate n 0 ≡ marks_of (λ k. false) is
marks-none [] zero e = refl
marks-none [] (suc n) e = absurd (omega arith)
marks-none (i ∷ is) zero e = absurd (omega arith)
marks-none (i ∷ is) (suc n) e = rw (marks-none is n (omega arith))

pub sends-message : (rs : List Range) (out : List ℕ) (n : ℕ) → length (spell_message rs) ≡ n → sends (answer n) (overwrite (spell_message rs) out) ≡ spell_message rs ∷ []
unfolding spell_message
sends-message rs out n e = rw (← e) (ap (λ (m : List ℕ). m ∷ []) (overwrite-front (spell_message rs) out (length (spell_message rs)) refl))

module _ (A : Table) (a : Cut) (k_a : Kept A a) where
  -- ---- the opening

  pub begun_agrees : (o : Place) (w : Begun A o) → Agrees A o (theory.opened (project w.query))
  unfolding has flatten rising
  begun_agrees o w = record {
    ids = [];
    sized = tt;
    list = w.needed;
    count = w.count;
    rises = refl;
    needed = λ i. refl;
    marks = w.marks ∙ marks-none (items A) (length A.times) (items-length A);
    marked = w.marked ∙ sym (rw w.marks (no_ones (length A.times)));
    done = w.going;
    label = w.label;
    sent = rw w.sent (Forall₂.cons (record { ranges = w.query; well = w.well; spelled = refl; projected = refl }) Forall₂.nil);
    handed = rw w.handed Forall₂.nil;
  }

  -- ---- takes

  -- the session after a take that was handed the reply R to the query Q and came to the next query N
  abbrev pub after : theory.Session (List ℕ) → Message (List ℕ) → Message (List ℕ) → Message (List ℕ) → theory.Session (List ℕ)
  after s Q R N = record {
    marked = λ k. ends.marks protocol (end_of A a) R k || s.marked k;
    needed = λ i. ends.needs protocol (end_of A a) R i || s.needed i;
    done = T.skips_only N;
    sent = cond (T.skips_only N) s.sent (N ∷ s.sent);
    handed = (Q, R) ∷ s.handed;
  }

  -- t is handed over at the place p, and res is what the call answers and leaves
  module _ (p : Place) (s : theory.Session (List ℕ)) (g : Agrees A p s) (t : Take) (res : Result Lent) where
    ids-handed : needed_ids (lent_at p t) ≡ g.ids
    ids-handed = rw (g.count, g.list) (ids_flatten g.ids t.behind g.sized)

    -- a refused take
    list-kept : (l : Lent) → l ≡ lent_at p t → take (32 * l.session.needed) l.needed ≡ flatten g.ids
    list-kept l e = rw (e, g.count, g.list) (take_at (flatten g.ids) t.behind (32 * length g.ids) (flatten_length g.ids g.sized))

    pub refused_agrees : (k : ℕ) → res.answer ≡ refused k → res.lent ≡ lent_at p t → Agrees A (behind_call res p.sent (hands res.answer t ++ p.handed)) s
    refused_agrees k e left = record {
      ids = g.ids;
      sized = g.sized;
      list = list-kept res.lent left;
      count = ap (λ (l : Lent). l.session.needed) left ∙ g.count;
      rises = g.rises;
      needed = g.needed;
      marks = ap (λ (l : Lent). l.marks) left ∙ g.marks;
      marked = rw left g.marked;
      done = ap (λ (l : Lent). l.session.done) left ∙ g.done;
      label = ap (λ (l : Lent). l.session.label) left ∙ g.label;
      sent = rw e g.sent;
      handed = rw e g.handed;
    }

    -- an unrefused take, handed the reply R to the query Q
    module _ {Q R : Message (List ℕ)} (asked : Means t.query Q) (replied : Means t.reply R) (n : ℕ) (e : res.answer ≡ answer n)
        (w : Took A replied.ranges (lent_at p t) n res.lent) where
      abbrev r : List Range
      r = replied.ranges

      abbrev ids : List (List ℕ)
      ids = needed_after (items A) r g.ids

      abbrev N : Message (List ℕ)
      N = project w.query

      ids_sorted : Sorted ids
      unfolding needed_after
      ids_sorted =
          added_sorted g.ids (flatten (each_range (unowned (items A)) start r)) (unowned-sized (items A) start r replied.well)
          (record { sized = g.sized; rises = g.rises })

      list_left : (l : Lent) → l ≡ leaves A r (sent_of w.query) (skips_only w.query) (lent_at p t) → take (32 * l.session.needed) l.needed ≡ flatten ids
      unfolding take_leaves
      list_left l f = rw (f, ids-handed) (overwrite-front (flatten ids) (p.needed ++ t.behind) (32 * length ids) (flatten_length ids ids_sorted.sized))

      query-means : Means (spell_message w.query) N
      query-means = record { ranges = w.query; well = w.well; spelled = refl; projected = refl }

      sent-left : (out : List ℕ) → out ≡ overwrite (sent_of w.query) t.out → Forall₂ Means (sends (answer n) out ++ p.sent) (after s Q (project r) N).sent
      sent-left out f =
          by_test (skips_only w.query)
          (λ z. let nothing : n ≡ 0 = sym w.size ∙ rw z refl in rw (skips-only w.query, z, nothing) g.sent)
          (λ z. let some : length (spell_message w.query) ≡ n = rw z at w.size in
          rw (skips-only w.query, z, f, z, sends-message w.query t.out n some) (Forall₂.cons query-means g.sent))

      pub taken_agrees : Agrees A (behind_call res p.sent (hands res.answer t ++ p.handed)) (after s Q (project r) N)
      unfolding take_leaves
      taken_agrees = record {
        ids = ids;
        sized = ids_sorted.sized;
        list = list_left res.lent w.left;
        count = ap (λ (l : Lent). l.session.needed) w.left ∙ ap (λ (ds : List (List ℕ)). length (needed_after (items A) r ds)) ids-handed;
        rises = ids_sorted.rises;
        needed = λ i. needed-after A a k_a r replied.well g.ids g.sized i ∙ ap (λ c. ends.needs protocol (end_of A a) (project r) i || c) (g.needed i);
        marks = ap (λ (l : Lent). l.marks) w.left ∙ ap (marks_after (items A) r) g.marks ∙ marks-after A a k_a r replied.well s.marked;
        marked = rw w.left refl;
        done = ap (λ (l : Lent). l.session.done) w.left ∙ sym (skips-only w.query);
        label = ap (λ (l : Lent). l.session.label) w.left ∙ g.label;
        sent = rw e (sent-left res.lent.out (ap (λ (l : Lent). l.out) w.left));
        handed = rw e (Forall₂.cons (asked, record { ranges = r; well = replied.well; spelled = replied.spelled; projected = refl }) g.handed);
      }

      -- it is a take of the theory
      pub took : (B : Table) → Memᴰ Q s.sent → LawfulReply protocol (keys_of B) Q (project r)
          → theory.Take protocol (keys_of A) (keys_of B) s Q (project r) N (after s Q (project r) N)
      unfolding ends.after_take
      took B mem lawful =
          let reports = take-reports protocol (end_of A a) (project r) s Q in
          record {
            going = sym g.done ∙ w.going;
            asked = mem;
            reply = lawful;
            next = w.lawful;
            reports = record { marks = reports.marks; needs = reports.needs };
            done = refl;
            sent = refl;
            handed = refl;
          }
