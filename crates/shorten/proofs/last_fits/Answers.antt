-- `shorten::last_fits` meets its contract.
use mathlib.Core.Path.{◌∙◌}
use native.Mathlib.Omega.{arith}
use lib.ListN.{replicate}
use Rattle.message.specs.declared.Bound.{Bound}
use Rattle.message.specs.declared.Payload.{Payload}
use Rattle.shorten.proofs.Fitting.{taken-room}
use Rattle.shorten.proofs.last_fits.Goals as goal

pub returns : goal.returns
returns c =
    c.has_room.ensures
    ∙ taken-room c.args.size c.args.writer (record { bound = Bound.Infinity; prefix = replicate 32 0; payload = Payload.Fingerprint 0 }) (replicate 16 0) c.requires.0 tt (omega arith) c.requires.1
