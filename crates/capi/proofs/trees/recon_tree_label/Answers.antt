-- `capi::trees::recon_tree_label` meets its contract.
use mathlib.Core.Path.{refl}
use Rattle.label.specs.Code.{label_in}
use Rattle.capi.proofs.trees.recon_tree_label.Goals as goal

pub returns-in-Ok : goal.returns-in-Ok
returns-in-Ok c =
    let e = c.in-Ok.ensures in
    record { refusal_value = rw (← e) refl; result_value = rw (← e) refl }

pub returns-in-Err : goal.returns-in-Err
unfolding label_in
returns-in-Err c =
    let e = c.in-Err.ensures in
    record { refusal_value = rw (← e) c.number.ensures; result_value = rw (← e) refl }
