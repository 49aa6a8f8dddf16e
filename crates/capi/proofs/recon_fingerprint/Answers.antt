-- `capi::recon_fingerprint` meets its contract.
use mathlib.Core.Path.{◌≡◌, refl}
use lib.ListN.{length}
use Rattle.message.specs.declared.Bound.{Bound}
use Rattle.capi.specs.Calls.{bound_by}
use Rattle.capi.proofs.recon_fingerprint.Goals as goal

pub returns-in-Ok : goal.returns-in-Ok
returns-in-Ok c =
    let upper : Bound = bound_by c.args.upper_infinite c.args.upper_time (length c.args.upper_prefix.now) in
    let x = c.bound-lower.ensures in
    let y : c.bound-upper.result ≡ upper = c.bound-upper.ensures in
    record { value = rw (← x, ← y, ← c.in-Ok.ensures) refl; out_after = rw (← x, ← y, ← c.in-Ok.ensures) refl }

pub returns-in-Err : goal.returns-in-Err
returns-in-Err c =
    let upper : Bound = bound_by c.args.upper_infinite c.args.upper_time (length c.args.upper_prefix.now) in
    let x = c.bound-lower.ensures in
    let y : c.bound-upper.result ≡ upper = c.bound-upper.ensures in
    record { value = rw (← x, ← y, ← c.in-Err.ensures) c.number.ensures; out_after = rw (← x, ← y, ← c.in-Err.ensures) refl }
