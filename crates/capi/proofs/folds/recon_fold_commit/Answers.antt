-- `capi::folds::recon_fold_commit` meets its contract.
use mathlib.Core.Path.{refl}
use Rattle.capi.specs.Calls.{label_by}
use Rattle.capi.proofs.folds.recon_fold_commit.Goals as goal

pub returns : goal.returns
returns c =
    let p = c.commit-outcome in
    let s = c.args.session in
    let e = p.ensures s.marked (label_by s.label) in
    record { result_value = rw e (c.tell_commit.ensures p.new.times p.new.ids p.new.needed); ids_after = rw e refl; needed_after = rw e refl }
