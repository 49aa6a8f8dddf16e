-- `labeltree::append::append` meets its contract.
use Rattle.std.proofs.lemmas.Result.{err_from_is_err_and}
use Rattle.table.specs.Code.{lent}
use Rattle.tree.specs.Tree.{item}
use Rattle.tree.proofs.Calls.{append-passed, append_refuses, append_does}
use Rattle.labeltree.proofs.append.append.Goals as goal

pub returns-in_err-check_append : goal.returns-in_err-check_append
returns-in_err-check_append c =
    let both = append_refuses (lent c.args.times.now c.args.ids.now) (item c.args.time c.args.id.now) c.args.tree.now _ c.in_err-check_append.ensures in
    let p = err_from_is_err_and c.from_residual.result c.from_residual.ensures.1 in
    record { result_value = rw (p.1, p.2) both.0; tree_after = both.1 }

pub store-requires : goal.store-requires
store-requires c =
    let p = append-passed (lent c.args.times.now c.args.ids.now) (item c.args.time c.args.id.now) c.args.tree.now c.in_ok-check_append.ensures in
    (p.whole, p.size, p.free, p.few)

pub returns : goal.returns
returns c =
    let both = append_does (lent c.args.times.now c.args.ids.now) (item c.args.time c.args.id.now) c.args.tree.now _ c.in_ok-check_append.ensures c.store.ensures in
    record { result_value = both.0; tree_after = both.1 }
