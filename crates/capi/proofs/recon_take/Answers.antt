-- `capi::recon_take` meets its contract.
use mathlib.Core.Path.{refl}
use Rattle.capi.proofs.recon_take.Goals as goal

pub returns : goal.returns
returns c =
    let e = rw c.from-session.ensures at c.take_reply-answer.ensures in
    record { result_value = rw e c.tell_session.ensures; marks_after = rw e refl; needed_after = rw e refl; out_after = rw e refl }
