-- `session::check::check_cut` meets its contract.
use mathlib.Core.Path.{sym, ◌∙◌}
use Rattle.std.proofs.lemmas.Result.{err_from_is_err_and}
use Rattle.cutting.specs.Code.{cut_of}
use Rattle.session.proofs.Chains.{cut-refused, cut-passed}
use Rattle.session.proofs.check.check_cut.Goals as goal

pub returns-in_err-check : goal.returns-in_err-check
returns-in_err-check c =
    let p = err_from_is_err_and c.from_residual.result c.from_residual.ensures.1 in
    rw (p.1, p.2) (cut-refused (cut_of c.args.cut) _ _ c.in_err-check.ensures)

pub returns : goal.returns
returns c = c.check_limit.ensures ∙ sym (cut-passed (cut_of c.args.cut) _ c.in_ok-check.ensures)
