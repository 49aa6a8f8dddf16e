-- What a conversion comes to.
use Prim.Native.Nat.{ℕ}
use mathlib.Core.Path.{◌≡◌, refl, sym, ap, ◌∙◌}
use mathlib.Core.Bool.{Bool, true, false, not, ◌||◌}
use mathlib.Core.List.{List, [], ◌∷◌}
use borrow.Author.Tests.{not-true, not-false}
use Rattle.table.specs.Answer.{answer, refused}
use Rattle.table.specs.Table.{Table, judge_table}
use Rattle.table.specs.Private.{Passed}
use Rattle.tablelabel.proofs.Verdicts.{labelled-refused}
use Rattle.ends.specs.Opener as E
use Rattle.ends.specs.Opener.{wrong_buffers, wrong_contents, table_label}
use Rattle.ends.specs.Converting.{Unlabelled, labelled, kept, converted}

module _ (T : Table) (u : Unlabelled) (marks needed : List ℕ) where
  pub convert_refused : (k : ℕ) → refused k ≡ judge_table T (answer (table_label T)) → refused k ≡ converted T u marks needed
  unfolding converted
  convert_refused k e = labelled-refused T (table_label T) _ k e

  abbrev wrong : E.Session → Bool
  wrong s = wrong_buffers T (kept s marks needed) || wrong_contents (kept s marks needed)

  -- the table passes; `fit` tells whether check 4 does
  module _ (ok : Passed T) (s : E.Session) (is : s ≡ labelled T u) (fit : Bool) (told : fit ≡ not (wrong s)) where
    judged : (b : Bool) → wrong s ≡ b → wrong (labelled T u) ≡ b
    judged b e = ap wrong (sym is) ∙ e

    pub convert_wrong : not fit ≡ true → refused 4 ≡ converted T u marks needed
    unfolding converted
    convert_wrong h = rw (ok.0, ok.1, judged true (not-false (wrong s) (sym told ∙ not-true fit h))) refl

    pub convert_done : not fit ≡ false → answer s ≡ converted T u marks needed
    unfolding converted
    convert_done h = ap answer is ∙ rw (ok.0, ok.1, judged false (not-true (wrong s) (sym told ∙ not-false fit h))) refl
