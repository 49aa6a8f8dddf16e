-- `session::responder::answer_version` meets its contract.
use Rattle.std.proofs.lemmas.Result.{err_from_is_err_and}
use Rattle.session.proofs.Answering.{version_long, version_sent}
use Rattle.session.proofs.responder.answer_version.Goals as goal

pub returns-in_err-begin : goal.returns-in_err-begin
returns-in_err-begin c =
    let e = c.in_err-begin.ensures in
    let p = err_from_is_err_and c.from_residual.result c.from_residual.ensures.1 in
    rw (p.1, p.2, e.out_after) (version_long c.args.out.now _ e.verdict_value)

pub returns : goal.returns
returns c =
    let e = c.in_ok-begin.ensures in
    rw e.out_after (version_sent c.args.out.now e.verdict_value)
