-- `session::check::check_end` meets its contract.
use mathlib.Core.Path.{sym, ◌∙◌}
use Rattle.std.proofs.lemmas.Result.{err_from_is_err_and}
use Rattle.table.specs.Code.{lent}
use Rattle.table.proofs.Checks.{judged-passed, judged-refused}
use Rattle.session.proofs.Chains.{table_then}
use Rattle.session.proofs.check.check_end.Goals as goal

pub returns-in_err-check_table : goal.returns-in_err-check_table
returns-in_err-check_table c =
    let a = c.args in
    let p = err_from_is_err_and c.from_residual.result c.from_residual.ensures.1 in
    rw (p.1, p.2) (judged-refused (lent a.times.now a.ids.now) _ _ c.in_err-check_table.ensures)

pub returns : goal.returns
returns c =
    let a = c.args in
    let T = lent a.times.now a.ids.now in
    let ok = judged-passed T c.in_ok-check_table.ensures in
    c.check_cut.ensures ∙ sym (table_then T ok _)
