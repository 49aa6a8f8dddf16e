-- `removal::bits::bit` meets its contract.
use mathlib.Core.Path.{sym}
use Rattle.removal.proofs.Bitwise.{byte_bit}
use Rattle.removal.proofs.bits.bit.Goals as goal

pub returns : goal.returns
returns c = sym (byte_bit c.args.marks.now c.args.k c.requires)
