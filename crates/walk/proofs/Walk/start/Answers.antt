-- `walk::Walk::start` meets its contract.
use mathlib.Core.Path.{refl}
use Rattle.reader.specs.Stepping as reader
use Rattle.walk.specs.Walking.{starts}
use Rattle.walk.proofs.Walk.start.Goals as goal

pub returns : goal.returns
unfolding starts reader.starts
returns c = refl
