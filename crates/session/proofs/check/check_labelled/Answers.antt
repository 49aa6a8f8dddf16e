-- `session::check::check_labelled` meets its contract.
use mathlib.Core.Path.{sym, ap, ◌∙◌}
use Rattle.std.proofs.lemmas.Result.{err_from_is_err_and}
use Rattle.table.specs.Answer.{answer}
use Rattle.table.specs.Code.{lent}
use Rattle.cutting.specs.Code.{cut_of}
use Rattle.shorten.specs.Code.{limit_of}
use Rattle.ends.specs.Opener.{table_label}
use Rattle.tablelabel.proofs.Verdicts.{labelled-passed, labelled-refused}
use Rattle.session.proofs.Chains.{table_then, end_refused, end-passed, end_then, not-both}
use Rattle.session.proofs.check.check_labelled.Goals as goal

pub returns-in_err-label : goal.returns-in_err-label
returns-in_err-label c =
    let a = c.args in
    let T = lent a.times.now a.ids.now in
    let p = err_from_is_err_and c.from_residual.result c.from_residual.ensures.1 in
    rw (p.1, p.2) (labelled-refused T (table_label T) _ _ c.in_err-label.ensures)

pub returns-in_err-check_cut : goal.returns-in_err-check_cut
returns-in_err-check_cut c =
    let a = c.args in
    let T = lent a.times.now a.ids.now in
    let ok = labelled-passed T (table_label T) c.in_ok-label.ensures in
    let p = err_from_is_err_and c.from_residual-in_err-check_cut.result c.from_residual-in_err-check_cut.ensures.1 in
    rw (p.1, p.2)
    (end_refused (limit_of a.limit) T (cut_of a.cut) _ (answer (tt {0})) _ (λ e. not-both (sym e)) (c.in_err-check_cut.ensures ∙ sym (table_then T ok.0 _)))

pub returns : goal.returns
returns c =
    let a = c.args in
    let T = lent a.times.now a.ids.now in
    let ok = labelled-passed T (table_label T) c.in_ok-label.ensures in
    let passed = end-passed (limit_of a.limit) T (cut_of a.cut) (answer (tt {0})) (c.in_ok-check_cut.ensures ∙ sym (table_then T ok.0 _)) in
    ap answer ok.1 ∙ sym (end_then (limit_of a.limit) T (cut_of a.cut) passed.0 (answer (table_label T)))
