-- What session, marks and needed list are at every place of a list of takes, and after commits: what check 4 judges (`stands-fits`), and the label of the table at the
-- opening, so that a conversion gives the session back (`stands-back`).
use Prim.Native.Nat.{ℕ, ◌+◌, ◌*◌, ◌%◌}
use mathlib.Core.Path.{◌≡◌, refl, sym, ap, ◌∙◌}
use mathlib.Core.Bool.{Bool, false}
use mathlib.Core.List.{List, [], ◌∷◌, ◌++◌, flatten}
use native.Mathlib.Omega.{arith}
use lib.Dec.{ltb}
use lib.ListN.{length, length-map, length-append}
use Rattle.theory.specs.Run as theory
use Rattle.theory.specs.Rounds.{Cut}
use Rattle.theory.proofs.Tests.{by_test}
use Rattle.table.specs.Answer.{answer}
use Rattle.table.specs.Table.{Item, key_of, Table, items, wrong_size, not_rising}
use Rattle.table.proofs.Items.{items-length}
use Rattle.ends.specs.Lists.{some}
use Rattle.ends.specs.Opener.{Session, ones, table_label}
use Rattle.ends.specs.Converting.{labelled, kept, converted}
use Rattle.ends.specs.Demand.{Place}
use Rattle.ends.specs.Labelled.{unlabelled}
use Rattle.ends.proofs.Tables.{Kept}
use Rattle.ends.proofs.Lists.{Listed, flatten_length, ids_flatten}
use Rattle.ends.proofs.Reports.{marks_of}
use Rattle.ends.proofs.Inserting.{Sorted}
use Rattle.ends.proofs.Passing.{Fit, fit-passes}
use Rattle.ends.proofs.Simulation.{Agrees}

pub record Standing (A : Table) (s : Session) (marks needed : List ℕ) : Type 0 where
  -- the ids of the needed list
  pub ids : List (List ℕ)
  pub sorted : Sorted ids
  pub list : needed ≡ flatten ids
  pub count : s.needed ≡ length ids
  pub size : length marks ≡ length A.times
  pub bits : some (ltb 1) marks ≡ false
  pub marked : s.marked ≡ ones marks
  pub label : s.label ≡ table_label A

pub stands-listed : {A : Table} {s : Session} {marks needed : List ℕ} → Standing A s marks needed → Listed s.needed needed
stands-listed w = record { ids = w.ids; sized = w.sorted.sized; list = w.list; count = w.count }

marks-bits : (f : ℕ → Bool) (is : List Item) → some (ltb 1) (marks_of f is) ≡ false
unfolding some
marks-bits f [] = refl
marks-bits f (i ∷ is) = by_test (f (key_of i)) (λ e. rw (e, marks-bits f is) refl) (λ e. rw (e, marks-bits f is) refl)

pub agrees_stands : (A : Table) (a : Cut) → Kept A a → {p : Place} {s : theory.Session (List ℕ)} → Agrees A p s → Standing A p.session p.marks p.needed
agrees_stands A a k_a {p} {s} g = record {
  ids = g.ids;
  sorted = record { sized = g.sized; rises = g.rises };
  list = g.list;
  count = g.count;
  size = ap length g.marks ∙ length-map (items A) _ ∙ items-length A;
  bits = rw g.marks (marks-bits s.marked (items A));
  marked = g.marked;
  label = g.label;
}

module _ (A : Table) (s : Session) (marks needed : List ℕ) (w : Standing A s marks needed) (behind : List ℕ) (whole : length behind % 32 ≡ 0) where
  list-size : length (needed ++ behind) ≡ 32 * length w.ids + length behind
  list-size = rw w.list (length-append (flatten w.ids) behind ∙ rw (flatten_length w.ids w.sorted.sized) refl)

  pub stands-fits : Fit A (kept s marks (needed ++ behind))
  stands-fits = record {
    marks = w.size;
    whole = omega (arith, list-size);
    bits = w.bits;
    marked = w.marked;
    list = omega (arith, list-size, w.count);
    rises = rw (w.count, w.list, ids_flatten w.ids behind w.sorted.sized) w.sorted.rises;
  }

  relabelled : labelled A (unlabelled s) ≡ s
  relabelled = λ i. record { marked = s.marked; needed = s.needed; done = s.done; label = sym w.label i }

  pub stands-back : wrong_size A ≡ false → not_rising A ≡ false → converted A (unlabelled s) marks (needed ++ behind) ≡ answer s
  unfolding converted
  stands-back size order = let f = fit-passes A (kept s marks (needed ++ behind)) stands-fits in rw (relabelled, size, order, f.0, f.1) refl
