-- `capi::tell_session` meets its contract.
use mathlib.Core.Path.{refl}
use Rattle.capi.proofs.tell_session.Goals as goal

pub returns : goal.returns
returns c = rw c.tell-refusal.ensures refl
