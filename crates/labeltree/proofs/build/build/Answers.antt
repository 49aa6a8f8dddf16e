-- `labeltree::build::build` meets its contract.
use mathlib.Core.Path.{ap, ◌∙◌}
use lib.ListN.{length}
use Rattle.std.proofs.lemmas.Result.{err_from_is_err_and}
use Rattle.table.specs.Code.{lent}
use Rattle.table.specs.Table.{Table}
use Rattle.tree.specs.Tree.{depth_of, tree_over}
use Rattle.tree.proofs.Places.{table-ids}
use Rattle.tree.proofs.Calls.{build-passed, build_refuses, build_does}
use Rattle.labeltree.proofs.build.build.Goals as goal

pub returns-in_err-check_build : goal.returns-in_err-check_build
returns-in_err-check_build c =
    let both = build_refuses (lent c.args.times.now c.args.ids.now) c.args.tree.now _ c.in_err-check_build.ensures in
    let p = err_from_is_err_and c.from_residual.result c.from_residual.ensures.1 in
    record { result_value = rw (p.1, p.2) both.0; tree_after = both.1 }

pub build_whole-requires : goal.build_whole-requires
build_whole-requires c =
    let p = build-passed (lent c.args.times.now c.args.ids.now) c.args.tree.now c.in_ok-check_build.ensures in
    (p.0, p.1.1, p.1.0)

pub returns : goal.returns
returns c =
    let table : Table = lent c.args.times.now c.args.ids.now in
    let passed = c.in_ok-check_build.ensures in
    let both = build_does table c.args.tree.now c.build_whole.new.tree passed
    (c.build_whole.ensures ∙ ap (tree_over (depth_of (length table.times))) (table-ids table (build-passed table c.args.tree.now passed).0)) in
    record { result_value = both.0; tree_after = both.1 }
