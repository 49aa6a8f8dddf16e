-- `judging::merge::Sofar::conclude` meets its contract.
use mathlib.Core.Path.{◌∙◌}
use Rattle.judging.proofs.Noting.{concluded, not_concluded}
use Rattle.judging.proofs.merge.Sofar.conclude.Goals as goal

pub returns-then-self : goal.returns-then-self
returns-then-self c = concluded c.args.asked c.args.self c.if-self.true c.enough.result c.enough.ensures

pub returns-else-self : goal.returns-else-self
returns-else-self c = c.if-self.false ∙ not_concluded c.args.asked c.args.self c.if-self.false
