-- `session::responder::answer_query` meets its contract.
use mathlib.Core.Path.{sym, ◌∙◌}
use Rattle.std.proofs.lemmas.Result.{err_from_is_err_and}
use Rattle.table.specs.Code.{lent}
use Rattle.table.specs.Table.{Table}
use Rattle.cutting.specs.Code.{cut_of}
use Rattle.shorten.specs.Code.{limit_of}
use Rattle.session.proofs.Chains.{Checked, end-passed}
use Rattle.session.proofs.Answering.{answer-refused, answer-other, answer-own}
use Rattle.session.proofs.responder.answer_query.Goals as goal

pub returns-then-other_version : goal.returns-then-other_version
returns-then-other_version c =
    let table : Table = lent c.args.times.now c.args.ids.now in
    let passed : Checked (limit_of c.args.limit) (table) (cut_of c.args.cut) = (end-passed (limit_of c.args.limit) (table) (cut_of c.args.cut) _ c.in_ok-check_end.ensures).0 in
    let p = passed in
    answer-other (limit_of c.args.limit) (table) (cut_of c.args.cut) _ _ p (sym c.other_version.ensures ∙ c.if-other_version.true) ∙ c.answer_version.ensures

pub answer_ranges-requires : goal.answer_ranges-requires
answer_ranges-requires c =
    let table : Table = lent c.args.times.now c.args.ids.now in
    let passed : Checked (limit_of c.args.limit) (table) (cut_of c.args.cut) = (end-passed (limit_of c.args.limit) (table) (cut_of c.args.cut) _ c.in_ok-check_end.ensures).0 in
    let p = passed in
    (p.ok, p.limits, p.least)

pub returns-in_err-check_end : goal.returns-in_err-check_end
returns-in_err-check_end c =
    let table : Table = lent c.args.times.now c.args.ids.now in
    let p = err_from_is_err_and c.from_residual.result c.from_residual.ensures.1 in
    rw (p.1, p.2) (answer-refused (limit_of c.args.limit) (table) (cut_of c.args.cut) _ _ _ c.in_err-check_end.ensures)

pub returns : goal.returns
returns c =
    let table : Table = lent c.args.times.now c.args.ids.now in
    let passed : Checked (limit_of c.args.limit) (table) (cut_of c.args.cut) = (end-passed (limit_of c.args.limit) (table) (cut_of c.args.cut) _ c.in_ok-check_end.ensures).0 in
    let p = passed in
    answer-own (limit_of c.args.limit) (table) (cut_of c.args.cut) _ _ p (sym c.other_version.ensures ∙ c.if-other_version.false) ∙ c.answer_ranges.ensures
