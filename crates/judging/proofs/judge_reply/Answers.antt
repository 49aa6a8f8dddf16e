-- `judging::judge_reply` meets its contract.
use Rattle.std.proofs.lemmas.Result.{err_from_is_err_and}
use Rattle.table.specs.Code.{lent}
use Rattle.table.proofs.Checks.{checked, judged-passed, judged-refused}
use Rattle.judge.specs.Judge.{judged}
use Rattle.judging.proofs.judge_reply.Goals as goal

pub approves-requires : goal.approves-requires
approves-requires c =
    let a = c.args in
    judged-passed (lent a.times.now a.ids.now) c.in_ok-check_table.ensures

pub returns-in_err-check_table : goal.returns-in_err-check_table
unfolding judged
returns-in_err-check_table c =
    let a = c.args in
    let p = err_from_is_err_and c.from_residual.result c.from_residual.ensures.1 in
    rw (p.1, p.2) (judged-refused (lent a.times.now a.ids.now) _ _ c.in_err-check_table.ensures)

pub returns : goal.returns
unfolding judged
returns c =
    let a = c.args in
    let T = lent a.times.now a.ids.now in
    let ok = judged-passed T c.in_ok-check_table.ensures in
    rw c.approves.ensures (checked T _ ok.0 ok.1)
