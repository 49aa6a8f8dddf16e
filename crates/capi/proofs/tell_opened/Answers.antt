-- `capi::tell_opened` meets its contract.
use Rattle.label.specs.Code.{label_in}
use Rattle.capi.proofs.tell_opened.Goals as goal

pub returns-in-Ok : goal.returns-in-Ok
returns-in-Ok c = λ marks needed out. rw c.in-Ok.is c.tell_session.ensures

pub returns-in-Err : goal.returns-in-Err
unfolding label_in
returns-in-Err c = λ marks needed out. rw c.in-Err.is c.tell_session-in-Err.ensures
