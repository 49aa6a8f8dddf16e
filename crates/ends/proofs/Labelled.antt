-- The session's label at every place of a list of takes: `knows_its_table`.
use Prim.Native.Nat.{ℕ}
use mathlib.Core.Path.{◌≡◌, sym, ◌∙◌}
use Rattle.theory.specs.Rounds.{Cut}
use Rattle.table.specs.Answer.{refused}
use Rattle.table.specs.Table.{Table}
use Rattle.ends.specs.Opener.{Lent, table_label}
use Rattle.ends.specs.Takes.{lent_at}
use Rattle.ends.specs.Mixed.{by, AnyTake, taking}
use Rattle.ends.specs.Labelled.{KnowsItsTable}
use Rattle.ends.proofs.Calls.{by_answer, unrefused-opening, unrefused-take}
use Rattle.ends.proofs.Labels.{not-other}
use Rattle.ends.proofs.Standing.{stands-back}
use Rattle.ends.proofs.Mixed.{stands}

-- a take with a table of another label
turned_down : (A B : Table) (a b : Cut) (x : AnyTake) (l : Lent) → l.session.label ≡ table_label A → (table_label x.table ≡ table_label A → ⊥)
    → (k : ℕ) × ((taking A B a b x l).answer ≡ refused k)
turned_down A B a b x l s other =
    by_answer (taking A B a b x l).answer
    (λ n e. absurd (other (sym (not-other x.table l.session (unrefused-take x.limit x.table (by x.odd a) x.handed.reply l n e).label) ∙ s)))
    (λ k e. (k, e))

pub knows_its_table : KnowsItsTable
knows_its_table A B a b bytes-A bytes-B limit lent n e p ρ =
    let w = stands A B a b bytes-A bytes-B limit lent n e ρ in
    let checks = (unrefused-opening limit A a lent n e).checks in
    record {
      label = w.label;
      other = λ x. turned_down A B a b x (lent_at p x.handed) w.label;
      back = λ behind whole. stands-back A p.session p.marks p.needed w behind whole checks.size checks.order;
    }
