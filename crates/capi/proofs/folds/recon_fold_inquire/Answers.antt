-- `capi::folds::recon_fold_inquire` meets its contract.
use mathlib.Core.Path.{refl}
use Rattle.capi.specs.Calls.{label_by}
use Rattle.capi.proofs.folds.recon_fold_inquire.Goals as goal

pub returns : goal.returns
returns c =
    let s = c.args.session in
    rw (c.tell_inquiry.ensures, c.inquire.ensures s.marked (label_by s.label)) refl
