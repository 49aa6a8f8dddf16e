-- `session::check::check_read` meets its contract.
use mathlib.Core.Path.{ap, ◌∙◌}
use Rattle.std.proofs.lemmas.Result.{err_from_is_err_and}
use Rattle.table.specs.Answer.{refused}
use Rattle.session.proofs.Chains.{read-refused, read-passed}
use Rattle.session.proofs.check.check_read.Goals as goal

pub returns-in_err-check_message : goal.returns-in_err-check_message
returns-in_err-check_message c =
    let p = err_from_is_err_and c.from_residual.result c.from_residual.ensures.1 in
    rw p.1 (ap refused p.2 ∙ read-refused c.args.m.now _ _ c.in_err-check_message.ensures)

pub returns : goal.returns
returns c = read-passed c.args.m.now _ c.in_ok-check_message.ensures
