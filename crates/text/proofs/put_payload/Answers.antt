use Rattle.std.proofs.Common.{arith}
use Rattle.text.specs.Text.{payload_field}
use Rattle.text.specs.Private.{payload_fields}
use Rattle.text.proofs.put_payload.Goals as goal

pub returns-in-Skip : goal.returns-in-Skip
unfolding payload_fields payload_field
returns-in-Skip c = rw c.in-Skip.is record { value = (c.copy.ensures.value, omega arith); out_after = c.copy.ensures.out_after }
