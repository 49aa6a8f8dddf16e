-- `folding::check::check_tables` meets its contract.
use mathlib.Core.Path.{◌≡◌, ◌∙◌}
use native.Mathlib.Omega.{arith}
use Rattle.std.proofs.lemmas.Result.{err_from_is_err_and}
use Rattle.table.specs.Code.{lent}
use Rattle.table.specs.Answer.{answer}
use Rattle.table.specs.Table.{Table, judge_table}
use Rattle.table.proofs.Checks as table
use Rattle.fold.specs.Fold.{front}
use Rattle.folding.proofs.Judging.{told_short, told-holds, front-lent, own-size, batch_size, own_order, batch-order}
use Rattle.folding.proofs.check.check_tables.Goals as goal
use Rattle.folding.proofs.check.check_tables.Goals.{then-fresh-gt1048576-via-then-fresh-gt1048576, then-fresh-gt1048576-via-else-fresh-gt1048576+then-freshids-fresh}

pub returns-then-not-holds : goal.returns-then-not-holds
returns-then-not-holds c =
    let T : Table = lent c.args.times.now c.args.ids.now in
    own-size c.args.count T (lent c.args.fresh.now c.args.freshids.now) (told_short c.args.count T c.holds.result c.holds.ensures c.if-not-holds.true)

pub returns-then-fresh-gt1048576 : goal.returns-then-fresh-gt1048576
returns-then-fresh-gt1048576 c =
    let T : Table = lent c.args.times.now c.args.ids.now in
    let B : Table = lent c.args.fresh.now c.args.freshids.now in
    let held = told-holds c.args.count T c.holds.result c.holds.ensures c.if-not-holds.false in
    elim c.then-fresh-gt1048576.branch [
      | then-fresh-gt1048576-via-then-fresh-gt1048576 w ↦ batch_size c.args.count T B held (table.too_many B w.if-fresh-gt1048576.true)
      | then-fresh-gt1048576-via-else-fresh-gt1048576+then-freshids-fresh w ↦ batch_size c.args.count T B held (table.other-size B w.if-freshids-fresh.true)
    ]

pub returns-in_err-check_table : goal.returns-in_err-check_table
returns-in_err-check_table c =
    let T : Table = lent c.args.times.now c.args.ids.now in
    let B : Table = lent c.args.fresh.now c.args.freshids.now in
    let held = told-holds c.args.count T c.holds.result c.holds.ensures c.if-not-holds.false in
    let sized = table.size_holds B (omega arith) c.if-freshids-fresh.false in
    let p = err_from_is_err_and c.from_residual.result c.from_residual.ensures.1 in
    rw (p.1, p.2) (own_order c.args.count T B held sized _ (rw (front-lent c.args.count c.args.times.now c.args.ids.now) at c.in_err-check_table.ensures))

pub returns : goal.returns
returns c =
    let T : Table = lent c.args.times.now c.args.ids.now in
    let B : Table = lent c.args.fresh.now c.args.freshids.now in
    let held = told-holds c.args.count T c.holds.result c.holds.ensures c.if-not-holds.false in
    let sized = table.size_holds B (omega arith) c.if-freshids-fresh.false in
    let own : answer (tt {0}) ≡ judge_table (front c.args.count T) (answer tt) = rw (front-lent c.args.count c.args.times.now c.args.ids.now) at c.in_ok-check_table.ensures in
    c.check_table-2.ensures ∙ batch-order c.args.count T B held sized (table.judged-passed (front c.args.count T) own)
