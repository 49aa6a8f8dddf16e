use Rattle.std.proofs.Common.{arith}
use Rattle.text.specs.Text.{time_field}
use Rattle.text.specs.Private.{spaced}
use Rattle.text.proofs.put_time.Goals as goal

pub returns-in-Infinity : goal.returns-in-Infinity
unfolding spaced time_field
returns-in-Infinity c = rw c.in-Infinity.is record { value = (c.copy.ensures.value, omega arith); out_after = c.copy.ensures.out_after }

pub returns-in-At : goal.returns-in-At
unfolding spaced time_field
returns-in-At c = rw c.in-At.is record { value = c.put_decimal.ensures.value; out_after = c.put_decimal.ensures.out_after }
