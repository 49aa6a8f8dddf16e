-- `capi::convert::recon_session_convert` meets its contract.
use Rattle.label.specs.Code.{label_in}
use Rattle.capi.proofs.convert.recon_session_convert.Goals as goal

pub returns-in-Ok : goal.returns-in-Ok
returns-in-Ok c = rw (← c.in-Ok.ensures) c.tell_session.ensures

pub returns-in-Err : goal.returns-in-Err
unfolding label_in
returns-in-Err c = rw (← c.in-Err.ensures) c.tell_session-in-Err.ensures
