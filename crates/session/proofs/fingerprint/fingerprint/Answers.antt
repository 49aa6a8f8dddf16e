-- `session::fingerprint::fingerprint` meets its contract.
use mathlib.Core.Path.{sym, ◌∙◌}
use Rattle.std.proofs.lemmas.Result.{err_from_is_err_and}
use Rattle.table.specs.Code.{lent}
use Rattle.table.specs.Table.{Table}
use Rattle.table.specs.Private.{Passed}
use Rattle.table.proofs.Checks.{judged-passed}
use Rattle.session.proofs.Ranges.{table_refuses, lower_refuses, upper_refuses, answers}
use Rattle.session.proofs.fingerprint.fingerprint.Goals as goal
use Rattle.session.proofs.fingerprint.fingerprint.Goals.{then-not-is_lawful-via-then-not-is_lawful, then-not-is_lawful-via-else-not-is_lawful+then-not-is_lawful-2}

pub returns-then-not-is_lawful : goal.returns-then-not-is_lawful
returns-then-not-is_lawful c =
    let table : Table = lent c.args.times.now c.args.ids.now in
    let passed : Passed (table) = judged-passed (table) c.in_ok-check_table.ensures in
    let a = c.args in
    elim c.then-not-is_lawful.branch [
      | then-not-is_lawful-via-then-not-is_lawful w ↦ lower_refuses (table) a.lower a.lower_prefix.now a.upper a.upper_prefix.now (passed) (sym c.is_lawful.ensures ∙ w.if-not-is_lawful.true)
      | then-not-is_lawful-via-else-not-is_lawful+then-not-is_lawful-2 w ↦
          upper_refuses (table) a.lower a.lower_prefix.now a.upper a.upper_prefix.now (passed) (sym c.is_lawful.ensures ∙ w.if-not-is_lawful.false) (sym w.is_lawful-else-not-is_lawful.ensures ∙ w.if-not-is_lawful-2.true)
    ]

pub of_items-requires : goal.of_items-requires
of_items-requires c =
    let table : Table = lent c.args.times.now c.args.ids.now in
    let passed : Passed (table) = judged-passed (table) c.in_ok-check_table.ensures in
    passed

pub returns-in_err-check_table : goal.returns-in_err-check_table
returns-in_err-check_table c =
    let table : Table = lent c.args.times.now c.args.ids.now in
    let a = c.args in
    let p = err_from_is_err_and c.from_residual.result c.from_residual.ensures.1 in
    rw (p.1, p.2) (table_refuses (table) a.lower a.lower_prefix.now a.upper a.upper_prefix.now _ c.in_err-check_table.ensures)

pub returns : goal.returns
returns c =
    let table : Table = lent c.args.times.now c.args.ids.now in
    let passed : Passed (table) = judged-passed (table) c.in_ok-check_table.ensures in
    let a = c.args in
    answers (table) a.lower a.lower_prefix.now a.upper a.upper_prefix.now (passed) (sym c.is_lawful.ensures ∙ c.if-not-is_lawful.false) (sym c.is_lawful-else-not-is_lawful.ensures ∙ c.if-not-is_lawful-2.false) c.of_items.result c.of_items.ensures
