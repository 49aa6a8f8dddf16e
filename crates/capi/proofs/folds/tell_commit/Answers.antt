-- `capi::folds::tell_commit` meets its contract.
use mathlib.Core.Path.{refl}
use Rattle.capi.proofs.folds.tell_commit.Goals as goal

pub returns-in-Ok : goal.returns-in-Ok
returns-in-Ok c = λ times ids list. rw c.in-Ok.is refl

pub returns-in-Err : goal.returns-in-Err
returns-in-Err c = λ times ids list. rw (c.in-Err.is, c.number.ensures) refl
