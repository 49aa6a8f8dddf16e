-- `capi::trees::recon_tree_append` meets its contract.
use Rattle.table.specs.Code.{lent}
use Rattle.tree.specs.Tree.{append, item}
use Rattle.capi.proofs.Verdicts.{number-told}
use Rattle.capi.proofs.trees.recon_tree_append.Goals as goal

pub returns : goal.returns
returns c =
    let a = c.args in
    let e = c.append.ensures in
    record { value = number-told (append (lent a.times.now a.ids.now) (item a.time a.id.now) a.tree.now) _ _ c.number.ensures e.result_value; tree_after = e.tree_after }
