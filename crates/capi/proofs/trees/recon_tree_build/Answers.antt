-- `capi::trees::recon_tree_build` meets its contract.
use Rattle.table.specs.Code.{lent}
use Rattle.tree.specs.Tree.{build}
use Rattle.capi.proofs.Verdicts.{number-told}
use Rattle.capi.proofs.trees.recon_tree_build.Goals as goal

pub returns : goal.returns
returns c =
    let a = c.args in
    let e = c.build.ensures in
    record { value = number-told (build (lent a.times.now a.ids.now) a.tree.now) _ _ c.number.ensures e.result_value; tree_after = e.tree_after }
