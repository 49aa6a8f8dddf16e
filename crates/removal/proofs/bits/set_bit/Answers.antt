-- `removal::bits::set_bit` meets its contract.
use Prim.Native.Nat.{◌%◌}
use native.Mathlib.Omega.{arith}
use Rattle.removal.proofs.Bitwise.{power_fits, bit_set_in}
use Rattle.removal.proofs.bits.set_bit.Goals as goal

pub returns : goal.returns
returns c = rw (power_fits (c.args.k % 8) (omega arith)) (bit_set_in c.args.marks.now c.args.k c.requires)
