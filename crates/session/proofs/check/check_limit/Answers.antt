-- `session::check::check_limit` meets its contract.
use mathlib.Core.Path.{refl, sym, ◌∙◌}
use Rattle.session.proofs.check.check_limit.Goals as goal

pub returns-then-below_least : goal.returns-then-below_least
returns-then-below_least c = rw (sym c.below_least.ensures ∙ c.if-below_least.true) refl

pub returns : goal.returns
returns c = rw (sym c.below_least.ensures ∙ c.if-below_least.false) refl
