-- `labeltree::build::check_build` meets its contract.
use lib.ListN.{length}
use Rattle.std.proofs.lemmas.Result.{err_from_is_err_and}
use Rattle.table.specs.Code.{lent}
use Rattle.table.specs.Table.{Table}
use Rattle.table.proofs.Checks.{judged-passed}
use Rattle.tree.specs.Tree.{depth_of}
use Rattle.tree.proofs.Calls.{build-table, build-size, build_free, size_wrong, size_right}
use Rattle.labeltree.proofs.build.check_build.Goals as goal

pub returns-in_err-check_table : goal.returns-in_err-check_table
returns-in_err-check_table c =
    let p = err_from_is_err_and c.from_residual.result c.from_residual.ensures.1 in
    rw (p.1, p.2) (build-table (lent c.args.times.now c.args.ids.now) c.args.len _ c.in_err-check_table.ensures)

pub returns-then-not-has_size : goal.returns-then-not-has_size
returns-then-not-has_size c =
    let table : Table = lent c.args.times.now c.args.ids.now in
    let d = c.depth_of-depth in
    build-size table c.args.len (judged-passed table c.in_ok-check_table.ensures) (size_wrong (depth_of (length c.args.times.now)) c.args.len d.result.places d.ensures.1 _ c.has_size.ensures c.if-not-has_size.true)

pub returns : goal.returns
returns c =
    let table : Table = lent c.args.times.now c.args.ids.now in
    let d = c.depth_of-depth in
    build_free table c.args.len (judged-passed table c.in_ok-check_table.ensures) (size_right (depth_of (length c.args.times.now)) c.args.len d.result.places d.ensures.1 _ c.has_size.ensures c.if-not-has_size.false)
