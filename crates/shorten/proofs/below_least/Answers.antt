-- `shorten::below_least` meets its contract.
use native.Mathlib.Omega.{arith}
use Rattle.std.proofs.lemmas.Grind.{common_steps}
use Rattle.limit.specs.Limit.{below_least}
use Rattle.shorten.proofs.below_least.Goals as goal

pub returns : goal.returns
unfolding below_least
returns c = grind (arith, common_steps)
