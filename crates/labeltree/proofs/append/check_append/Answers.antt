-- `labeltree::append::check_append` meets its contract.
use Rattle.std.proofs.lemmas.Result.{err_from_is_err_and}
use Rattle.table.specs.Code.{lent, answer_of}
use Rattle.table.specs.Table.{Table}
use Rattle.table.specs.Private.{Passed}
use Rattle.table.proofs.Items.{right_size}
use Rattle.table.proofs.Checks.{judged-passed}
use Rattle.tree.specs.Tree.{item}
use Rattle.tree.proofs.Calls.{append-id, append-table, append-order, append-place}
use Rattle.labeltree.proofs.append.check_append.Goals as goal

pub returns-then-id-ne32 : goal.returns-then-id-ne32
returns-then-id-ne32 c = append-id (lent c.args.times.now c.args.ids.now) (item c.args.time c.args.id.now) c.args.len c.if-id-ne32.true

pub returns-in_err-check_table : goal.returns-in_err-check_table
returns-in_err-check_table c =
    let p = err_from_is_err_and c.from_residual.result c.from_residual.ensures.1 in
    rw (p.1, p.2) (append-table (lent c.args.times.now c.args.ids.now) (item c.args.time c.args.id.now) c.args.len c.if-id-ne32.false _ c.in_err-check_table.ensures)

pub is_above_last-requires : goal.is_above_last-requires
is_above_last-requires c = (judged-passed (lent c.args.times.now c.args.ids.now) c.in_ok-check_table.ensures, c.if-id-ne32.false)

pub returns-then-not-is_above_last : goal.returns-then-not-is_above_last
returns-then-not-is_above_last c =
    let table : Table = lent c.args.times.now c.args.ids.now in
    append-order table (item c.args.time c.args.id.now) c.args.len c.if-id-ne32.false (judged-passed table c.in_ok-check_table.ensures) c.is_above_last.result c.is_above_last.ensures c.if-not-is_above_last.true

pub check_place-requires : goal.check_place-requires
check_place-requires c =
    let table : Table = lent c.args.times.now c.args.ids.now in
    let passed : Passed table = judged-passed table c.in_ok-check_table.ensures in
    (right_size table passed.0).1

pub returns : goal.returns
returns c =
    let table : Table = lent c.args.times.now c.args.ids.now in
    append-place table (item c.args.time c.args.id.now) c.args.len c.if-id-ne32.false (judged-passed table c.in_ok-check_table.ensures) c.is_above_last.result (answer_of c.check_place.result)
    c.is_above_last.ensures c.if-not-is_above_last.false c.check_place.ensures
