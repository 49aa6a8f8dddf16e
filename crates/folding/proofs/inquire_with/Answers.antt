-- `folding::inquire_with` meets its contract.
use mathlib.Core.Path.{◌∙◌}
use Rattle.std.proofs.lemmas.Result.{err_from_is_err_and}
use Rattle.label.specs.Label.{empty}
use Rattle.table.specs.Code.{lent}
use Rattle.fold.proofs.Laying.{needed-fits}
use Rattle.folding.specs.Code.{lent_to}
use Rattle.folding.proofs.Judging.{both-passed, tables_refuse, tables-right, list_refuses, both_pass}
use Rattle.folding.proofs.inquire_with.Goals as goal

pub returns-in_err-check_tables-clause-answer_value : goal.returns-in_err-check_tables-clause-answer_value
returns-in_err-check_tables-clause-answer_value c =
    let a = c.args in
    let p = err_from_is_err_and c.from_residual.result c.from_residual.ensures.1 in
    λ marked label. rw (p.1, p.2)
    (tables_refuse a.count (lent_to a.times.now a.ids.now a.needed.now marked label a.size a.done) (lent a.fresh.now a.freshids.now) _ c.in_err-check_tables.ensures)

pub returns-in_err-check_list-clause-answer_value : goal.returns-in_err-check_list-clause-answer_value
returns-in_err-check_list-clause-answer_value c =
    let a = c.args in
    let r = c.from_residual-in_err-check_list in
    let p = err_from_is_err_and r.result r.ensures.1 in
    λ marked label. rw (p.1, p.2)
    (list_refuses a.count (lent_to a.times.now a.ids.now a.needed.now marked label a.size a.done) (lent a.fresh.now a.freshids.now) c.in_ok-check_tables.ensures _
    (c.in_err-check_list.ensures a.times.now a.ids.now marked label))

pub inquire_checked-requires : goal.inquire_checked-requires
inquire_checked-requires c =
    let a = c.args in
    let l = lent_to a.times.now a.ids.now a.needed.now 0 empty a.size a.done in
    let t = tables-right a.count l (lent a.fresh.now a.freshids.now) c.in_ok-check_tables.ensures in
    let f = needed-fits l (both-passed 4 15 _ _ (c.in_ok-check_list.ensures a.times.now a.ids.now 0 empty)).0 in
    (t.0, t.1, t.2, f.room, f.rises, c.requires.0, c.requires.1)

pub returns-clause-answer_value : goal.returns-clause-answer_value
returns-clause-answer_value c =
    let a = c.args in
    λ marked label.
    both_pass a.count (lent_to a.times.now a.ids.now a.needed.now marked label a.size a.done) (lent a.fresh.now a.freshids.now) c.in_ok-check_tables.ensures
    (c.in_ok-check_list.ensures a.times.now a.ids.now marked label)
    ∙ c.inquire_checked.ensures.needed_value
